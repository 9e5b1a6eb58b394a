use Rattle.std.specs.Prelude.{ℕ}
use Rattle.testproto.specs.declared.fault.ProtoFault.{ProtoFault}
use Rattle.testproto.specs.declared.fault.ProtoFault.TheVariants.{Wire, NotUtf8, OutOfMemory}

-- the number of a fault
abbrev pub code_of : ProtoFault → ℕ
code_of (Wire fault) = 1
code_of NotUtf8 = 2
code_of OutOfMemory = 3
