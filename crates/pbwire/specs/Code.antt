use Rattle.std.specs.Prelude.{ℕ}
use Rattle.pbwire.specs.declared.fault.WireFault.{WireFault}
use Rattle.pbwire.specs.declared.fault.WireFault.TheVariants.{
  Truncated,
  VarintTooLong,
  BadTag,
  Group,
  OutOfMemory,
}

-- the number of a fault
abbrev pub code_of : WireFault → ℕ
code_of Truncated = 1
code_of VarintTooLong = 2
code_of BadTag = 3
code_of Group = 4
code_of OutOfMemory = 5
