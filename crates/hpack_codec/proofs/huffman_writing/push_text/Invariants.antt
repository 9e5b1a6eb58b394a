use Rattle.std.proofs.Common.{take}
use Rattle.hpack_codec.proofs.HuffmanWriting.{IsSpelling}
use Rattle.hpack_codec.proofs.huffman_writing.push_text.Given as goal

abbrev pub invariant-loop-octet : goal.invariant-loop-octet
invariant-loop-octet l =
    IsSpelling l.fn.out.items l.out.items (take l.octet-index l.octets) l.count l.register
