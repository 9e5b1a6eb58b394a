use Rattle.std.proofs.Common.{◌+◌, ◌-◌, ◌∙◌, sym, ap, arith}
use Rattle.std.proofs.lemmas.Nat.{one_shl}
use Rattle.hpack_codec.proofs.Huffmans.{
  reads_none,
  reads_more,
  register_fits,
  no_text_long,
  whole_text,
  no_padding,
}
use Rattle.hpack_codec.proofs.huffman.decode.Goals as goal
use Rattle.hpack_codec.proofs.huffman.decode.Goals.{
  else-count-lt8-via-then-count-lt8+else-register-count,
  else-count-lt8-via-else-count-lt8,
}

pub loop-byte-init : goal.loop-byte-init
loop-byte-init c = record {
  short = omega arith;
  reading = rw c.in_ok-octets.ensures.items reads_none;
}

pub drain-requires-clause-register : goal.drain-requires-clause-register
drain-requires-clause-register c =
    register_fits c.loop-byte.count c.loop-byte.register c.from.result
    c.loop-byte.invariant.reading.bound
    (omega (arith, c.from.ensures, c.type_inv.text c.loop-byte.byte-index))

pub returns-then-count-ge-MAX_LEN-clause-err : goal.returns-then-count-ge-MAX_LEN-clause-err
returns-then-count-ge-MAX_LEN-clause-err c =
    no_text_long c.args.text.now c.drain.new.octets.items (c.loop-byte.byte-index + 1)
    c.in_ok-register.field-0-1 c.in_ok-register.field-0-0
    (reads_more c.args.text.now c.loop-byte.octets.items c.drain.new.octets.items
    c.loop-byte.byte-index c.loop-byte.count c.loop-byte.register c.from.result
    c.in_ok-register.field-0-1 c.in_ok-register.field-0-0 c.loop-byte-test.true c.from.ensures
    (omega (arith, c.from.ensures, c.type_inv.text c.loop-byte.byte-index))
    c.loop-byte.invariant.reading c.in_ok-register.ensures)
    c.if-count-ge-MAX_LEN.true

pub loop-byte-preserved : goal.loop-byte-preserved
loop-byte-preserved c = record {
  short = c.if-count-ge-MAX_LEN.false;
  reading =
      reads_more c.args.text.now c.loop-byte.octets.items c.drain.new.octets.items
      c.loop-byte.byte-index c.loop-byte.count c.loop-byte.register c.from.result
      c.in_ok-register.field-0-1 c.in_ok-register.field-0-0 c.loop-byte-test.true c.from.ensures
      (omega (arith, c.from.ensures, c.type_inv.text c.loop-byte.byte-index))
      c.loop-byte.invariant.reading c.in_ok-register.ensures;
}

pub returns-then-register-count-clause-ok : goal.returns-then-register-count-clause-ok
returns-then-register-count-clause-ok c =
    whole_text c.args.text.now c.loop-byte.octets.items c.loop-byte.byte-index c.loop-byte.count
    c.loop-byte.register c.loop-byte-test.false
    c.loop-byte.invariant.reading c.if-count-lt8.true
    (c.if-register-count.true
    ∙ ap (λ n. n - 1) (one_shl c.loop-byte.count 64 (omega (arith, c.if-count-lt8.true))))

pub returns-else-count-lt8-clause-err : goal.returns-else-count-lt8-clause-err
returns-else-count-lt8-clause-err c =
    no_padding c.args.text.now c.loop-byte.octets.items c.loop-byte.byte-index c.loop-byte.count
    c.loop-byte.register c.loop-byte-test.false c.loop-byte.invariant.reading
    (λ short ones. elim c.else-count-lt8.branch [
      | else-count-lt8-via-then-count-lt8+else-register-count w ↦
          w.if-register-count.false
          (ones ∙ sym (ap (λ n. n - 1) (one_shl c.loop-byte.count 64 (omega (arith, short)))))
      | else-count-lt8-via-else-count-lt8 w ↦ omega (arith, w.if-count-lt8.false, short)
    ])
