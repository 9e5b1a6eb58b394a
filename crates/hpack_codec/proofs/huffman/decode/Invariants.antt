use Rattle.std.proofs.Common.{take, ◌<◌}
use Rattle.hpack_codec.proofs.Huffmans.{IsReading}
use Rattle.hpack_codec.proofs.huffman.decode.Given as goal

abbrev pub invariant-loop-byte : goal.invariant-loop-byte
invariant-loop-byte l = record {
  short : l.count < 30;
  reading : IsReading (take l.byte-index l.text) l.octets.items l.count l.register;
}
