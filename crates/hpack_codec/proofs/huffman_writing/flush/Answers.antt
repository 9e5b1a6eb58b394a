use Rattle.std.proofs.Common.{◌-◌, arith, refl}
use Rattle.std.proofs.lemmas.Nat.{one_shl}
use Rattle.hpack_codec.proofs.HuffmanWriting.{flushes_more, byte_fits}
use Rattle.hpack_codec.proofs.huffman_writing.flush.Goals as goal

pub overflow_cast-register : goal.overflow_cast-register
overflow_cast-register c = omega (
  arith,
  byte_fits c.loop-count.count c.loop-count.register c.loop-count-test.true
      c.loop-count.invariant.bound,
)

pub loop-count-preserved : goal.loop-count-preserved
loop-count-preserved c =
    rw c.in_ok-push.ensures.items
    (flushes_more _ _ c.args.count c.args.register c.loop-count.count c.loop-count.register _ _
    c.loop-count.invariant c.loop-count-test.true refl
    (one_shl (c.loop-count.count - 8) 64
    (omega (arith, c.requires.count, c.loop-count.invariant.shorter))))
