use Rattle.std.proofs.Common.{rules, arith}
use Rattle.hpack_codec.specs.Integer.{base_128, IsUnfinished}
use Rattle.hpack_codec.proofs.Integers.{takes_more, five_more, unfinished_more, next_more}
use Rattle.hpack_codec.proofs.integer.continuation.Goals as goal

pub loop-i-init : goal.loop-i-init
unfolding IsUnfinished base_128
loop-i-init c = search rules

pub returns-then-byte-lt128-clause-ok : goal.returns-then-byte-lt128-clause-ok
returns-then-byte-lt128-clause-ok c =
    takes_more c.args.bytes.now c.loop-i.i c.loop-i.number c.loop-i.weight c.from.result
    (omega arith) (omega arith) c.loop-i.invariant.unfinished c.loop-i.invariant.number
    c.loop-i.invariant.weight
    c.if-byte-lt128.true c.from.ensures

pub loop-i-preserved : goal.loop-i-preserved
loop-i-preserved c =
    let next = next_more c.args.bytes.now c.loop-i.i c.loop-i.number c.loop-i.weight c.from.result
    c.if-i-bytes.false c.loop-i.invariant.number c.loop-i.invariant.weight
    c.loop-i.invariant.small c.from.ensures in
    record {
      within = omega arith;
      unfinished =
          unfinished_more c.args.bytes.now c.loop-i.i c.if-i-bytes.false
          c.loop-i.invariant.unfinished c.if-byte-lt128.false;
      number = next.0;
      small = next.1;
      weight = next.2;
    }

pub returns-clause-err : goal.returns-clause-err
returns-clause-err c =
    five_more c.args.bytes.now c.loop-i.i c.loop-i.invariant.within (omega arith)
    c.loop-i.invariant.unfinished
