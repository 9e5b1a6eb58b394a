use Rattle.hpack_codec.proofs.HuffmanWriting.{IsFlushing}
use Rattle.hpack_codec.proofs.huffman_writing.flush.Given as goal

abbrev pub invariant-loop-count : goal.invariant-loop-count
invariant-loop-count l =
    IsFlushing l.fn.out.items l.out.items l.fn.count l.fn.register l.count l.register

abbrev pub decreases-loop-count : goal.decreases-loop-count
decreases-loop-count l = l.count
