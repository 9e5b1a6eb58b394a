use Rattle.std.proofs.Common.{take}
use Rattle.hpack_codec.proofs.CodeTables.{MissesAll}
use Rattle.hpack_codec.proofs.huffman.symbol_by.Given as goal

abbrev pub invariant-loop-row : goal.invariant-loop-row
invariant-loop-row l = MissesAll l.register l.count (take l.row-index l.codes)
