use Rattle.std.proofs.Common.{◌≡◌, take, fold}
use Rattle.connlog.specs.Blocks.{behind}
use Rattle.connlog.specs.declared.tables.ExpectedPart.TheVariants.{Field}
use Rattle.connlog.proofs.tables.keeps_tables.Given as goal

-- what comes next is what the bytes so far lead to
abbrev pub invariant-loop-byte : goal.invariant-loop-byte
invariant-loop-byte l = l.expected ≡ fold behind Field (take l.byte-index l.block)
