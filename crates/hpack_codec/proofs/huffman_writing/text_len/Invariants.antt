use Rattle.std.proofs.Common.{◌≡◌, ◌*◌, ◌≤◌, length, take}
use Rattle.std.specs.List.{flat_map}
use Rattle.hpack_codec.specs.Huffman.{code}
use Rattle.hpack_codec.proofs.huffman_writing.text_len.Given as goal

abbrev pub invariant-loop-octet : goal.invariant-loop-octet
invariant-loop-octet l = record {
  sum : l.bits ≡ length (flat_map code (take l.octet-index l.octets));
  most : l.bits ≤ 30 * l.octet-index;
}
