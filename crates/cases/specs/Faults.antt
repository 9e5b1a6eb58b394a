-- The numbers by which the faults are known outside.
use Rattle.std.specs.Prelude.{ℕ}
use Rattle.cases.specs.declared.fault.CaseFault.{CaseFault}
use Rattle.cases.specs.declared.fault.CaseFault.TheVariants.{
  Connection,
  WrongStatus,
  WrongReply,
  WrongMetadata,
  UnknownCase,
  StreamFailed,
  OutOfMemory,
  OwnBound,
  TooSlow,
}
use Rattle.cases.specs.declared.fault.Fault.{Fault}
use Rattle.cases.specs.declared.fault.Fault.TheVariants as fault

abbrev pub code_of : CaseFault → ℕ
code_of Connection = 1
code_of WrongStatus = 2
code_of WrongReply = 3
code_of WrongMetadata = 4
code_of UnknownCase = 5
code_of StreamFailed = 6
code_of OutOfMemory = 7
code_of OwnBound = 8
code_of TooSlow = 9

-- which of them stands for what came
abbrev pub number_of : Fault → CaseFault
number_of (fault.Violation violation) = Connection
number_of (fault.Status mismatch) = WrongStatus
number_of (fault.Reply mismatch) = WrongReply
number_of (fault.Echo mismatch) = WrongMetadata
number_of fault.UnknownCase = UnknownCase
number_of (fault.Silence silence) = StreamFailed
number_of fault.Unwritable = Connection
number_of fault.OutOfMemory = OutOfMemory
number_of (fault.OwnBound bound) = OwnBound
