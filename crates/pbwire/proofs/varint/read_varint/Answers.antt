use Rattle.std.proofs.Common.{◌+◌, take, Err, ap, arith}
use Rattle.std.proofs.lemmas.List.{length-take}
use Rattle.pbwire.specs.declared.fault.WireFault.TheVariants.{Truncated, VarintTooLong}
use Rattle.pbwire.proofs.Varints.{
  more_groups,
  goes_on,
  ends,
  is_unfinished,
  is_overlong,
  one_varint,
  no_fault,
  same_fault,
}
use Rattle.pbwire.proofs.varint.read_varint.Goals as goal

pub loop-i-preserved : goal.loop-i-preserved
loop-i-preserved c =
    let front = take c.min.result c.args.bytes.now in
    record {
      high =
          goes_on front c.loop-i.i c.loop-i-test.true c.if-byte-lt-TOP_BIT.false
          c.loop-i.invariant.high;
      sum =
          more_groups front c.loop-i.i c.from-group.result c.loop-i.number c.loop-i-test.true
          c.from-group.ensures c.loop-i.invariant.sum;
    }

-- a byte without the top bit

pub returns-then-byte-lt-TOP_BIT-clause-ok : goal.returns-then-byte-lt-TOP_BIT-clause-ok
returns-then-byte-lt-TOP_BIT-clause-ok c =
    let front = take c.min.result c.args.bytes.now in
    let number_is =
    more_groups front c.loop-i.i c.from-group.result c.loop-i.number c.loop-i-test.true
    c.from-group.ensures c.loop-i.invariant.sum in
    ends c.args.bytes.now c.min.result c.loop-i.i _ (omega arith) (omega arith)
    (omega (arith, length-take c.min.result c.args.bytes.now)) c.if-byte-lt-TOP_BIT.true
    c.loop-i.invariant.high number_is

pub returns-then-byte-lt-TOP_BIT-clause-every_varint :
    goal.returns-then-byte-lt-TOP_BIT-clause-every_varint
returns-then-byte-lt-TOP_BIT-clause-every_varint c n l within spelled =
    let same =
    one_varint c.args.bytes.now _ (c.loop-i.i + 1)
    (omega (arith, length-take c.min.result c.args.bytes.now))
    (returns-then-byte-lt-TOP_BIT-clause-ok c) n l within spelled in
    cc

pub returns-then-byte-lt-TOP_BIT-clause-every_fault :
    goal.returns-then-byte-lt-TOP_BIT-clause-every_fault
returns-then-byte-lt-TOP_BIT-clause-every_fault c fault there =
    absurd (no_fault c.args.bytes.now _ (c.loop-i.i + 1)
    (returns-then-byte-lt-TOP_BIT-clause-ok c) fault there)

-- every byte has the top bit, and they are fewer than ten

pub returns-then-bytes-lt-MAX_LEN-clause-err : goal.returns-then-bytes-lt-MAX_LEN-clause-err
returns-then-bytes-lt-MAX_LEN-clause-err c =
    is_unfinished c.args.bytes.now c.min.result c.loop-i.i c.min.ensures c.loop-i-test.false
    c.loop-i.invariant.high c.if-bytes-lt-MAX_LEN.true

pub returns-then-bytes-lt-MAX_LEN-clause-every_varint :
    goal.returns-then-bytes-lt-MAX_LEN-clause-every_varint
returns-then-bytes-lt-MAX_LEN-clause-every_varint c n l within spelled =
    absurd
    (no_fault c.args.bytes.now n l spelled Truncated (returns-then-bytes-lt-MAX_LEN-clause-err c))

pub returns-then-bytes-lt-MAX_LEN-clause-every_fault :
    goal.returns-then-bytes-lt-MAX_LEN-clause-every_fault
returns-then-bytes-lt-MAX_LEN-clause-every_fault c fault there =
    ap (λ d. Err d)
    (same_fault c.args.bytes.now Truncated fault (returns-then-bytes-lt-MAX_LEN-clause-err c) there)

-- the first ten bytes have it

pub returns-else-bytes-lt-MAX_LEN-clause-err : goal.returns-else-bytes-lt-MAX_LEN-clause-err
returns-else-bytes-lt-MAX_LEN-clause-err c =
    is_overlong c.args.bytes.now c.min.result c.loop-i.i c.min.ensures c.loop-i-test.false
    c.loop-i.invariant.high c.if-bytes-lt-MAX_LEN.false

pub returns-else-bytes-lt-MAX_LEN-clause-every_varint :
    goal.returns-else-bytes-lt-MAX_LEN-clause-every_varint
returns-else-bytes-lt-MAX_LEN-clause-every_varint c n l within spelled =
    absurd (no_fault c.args.bytes.now n l spelled VarintTooLong
    (returns-else-bytes-lt-MAX_LEN-clause-err c))

pub returns-else-bytes-lt-MAX_LEN-clause-every_fault :
    goal.returns-else-bytes-lt-MAX_LEN-clause-every_fault
returns-else-bytes-lt-MAX_LEN-clause-every_fault c fault there =
    ap (λ d. Err d) (same_fault c.args.bytes.now VarintTooLong fault
    (returns-else-bytes-lt-MAX_LEN-clause-err c) there)
