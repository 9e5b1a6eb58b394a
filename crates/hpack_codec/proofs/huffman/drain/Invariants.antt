use Rattle.hpack_codec.proofs.Huffmans.{IsDraining}
use Rattle.hpack_codec.proofs.huffman.drain.Given as goal

abbrev pub invariant-loop-symbol : goal.invariant-loop-symbol
invariant-loop-symbol l =
    IsDraining l.fn.octets.items l.octets.items l.fn.count l.fn.register l.count l.register

abbrev pub decreases-loop-symbol : goal.decreases-loop-symbol
decreases-loop-symbol l = l.count
