-- The numbers by which programs print the faults.
use Rattle.std.specs.Prelude.{ℕ}
use Rattle.lpm.specs.declared.fault.LpmFault.{LpmFault}
use Rattle.lpm.specs.declared.fault.LpmFault.TheVariants.{
  Compressed,
  BadFlag,
  TooLong,
  CutAtEnd,
  OutOfMemory,
}

abbrev pub code_of : LpmFault → ℕ
code_of Compressed = 1
code_of BadFlag = 2
code_of TooLong = 3
code_of CutAtEnd = 4
code_of OutOfMemory = 5
