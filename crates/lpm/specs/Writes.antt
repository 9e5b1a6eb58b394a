-- Why a message isn't written.
use Rattle.std.specs.Prelude.{ℕ, ◌<◌, ◌≤◌}
use Rattle.lpm.specs.declared.fault.LpmFault.{LpmFault}
use Rattle.lpm.specs.declared.fault.LpmFault.TheVariants.{
  Compressed,
  BadFlag,
  TooLong,
  CutAtEnd,
  OutOfMemory,
}
use Rattle.lpm.specs.Messages.{max_message_len}

-- a message of this length meets this fault: it is too long, or there is no memory
abbrev pub RefusesLength : ℕ → LpmFault → Type 0
RefusesLength len TooLong = max_message_len < len
RefusesLength len OutOfMemory = len ≤ max_message_len
RefusesLength len Compressed = ⊥
RefusesLength len BadFlag = ⊥
RefusesLength len CutAtEnd = ⊥
