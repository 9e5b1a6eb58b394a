-- The numbers of the faults.
use Rattle.std.specs.Prelude.{ℕ}
use Rattle.hpack_codec.specs.declared.fault.HpackFault.{HpackFault}
use Rattle.hpack_codec.specs.declared.fault.HpackFault.TheVariants.{
  Integer,
  Index,
  Huffman,
  SizeUpdate,
  Truncated,
  OutOfMemory,
  Dead,
  TooLarge,
}

abbrev pub code_of_fault : HpackFault → ℕ
code_of_fault Integer = 1
code_of_fault Index = 2
code_of_fault Huffman = 3
code_of_fault SizeUpdate = 4
code_of_fault Truncated = 5
code_of_fault OutOfMemory = 6
code_of_fault Dead = 7
code_of_fault TooLarge = 8
