-- Varints (Protocol Buffers encoding guide, "Base 128 Varints").
use Rattle.std.specs.Prelude.{
  ◌≡◌,
  ℕ,
  ◌*◌,
  ◌%◌,
  ◌^◌,
  ◌<◌,
  ◌≤◌,
  List,
  [],
  ◌∷◌,
  ◌++◌,
  length,
  take,
  sum_by,
}
use Rattle.std.specs.List.{AllByRecursion, enumerate_from}
use Rattle.pbwire.specs.declared.fault.WireFault.{WireFault}
use Rattle.pbwire.specs.declared.fault.WireFault.TheVariants.{
  Truncated,
  VarintTooLong,
  BadTag,
  Group,
  OutOfMemory,
}

-- a byte with the top bit: another byte of the varint follows it
abbrev pub HasTopBit : ℕ → Type 0
HasTopBit byte = 128 ≤ byte

-- every byte but the last has the top bit, and the last has not
abbrev pub IsTerminated : List ℕ → Type 0
IsTerminated [] = ⊥
IsTerminated (byte ∷ []) = byte < 128
IsTerminated (byte ∷ next ∷ bytes) = HasTopBit byte × IsTerminated (next ∷ bytes)

-- seven bits of each byte count, least group first: the group at index i counts 128 ^ i times
abbrev pub sum_of_groups : List ℕ → ℕ
sum_of_groups bytes = sum_by (λ group. group.1 % 128 * 128 ^ group.0) (enumerate_from 0 bytes)

-- These bytes, all of them, spell the number. Bits over 64 are dropped, so a number has several
-- spellings.
pub record IsVarint (bytes : List ℕ) (number : ℕ) : Type 0 where
  pub terminated : IsTerminated bytes
  pub short : length bytes ≤ 10
  pub value : number ≡ sum_of_groups bytes % 2 ^ 64

-- the bytes are the spelling of a number, and then the rest
pub record StartsWithVarint (bytes : List ℕ) (number : ℕ) (rest : List ℕ) : Type 0 where
  pub spelling : List ℕ
  pub spelled : IsVarint spelling number
  pub parts : bytes ≡ spelling ++ rest

-- the first ten bytes all have the top bit
abbrev pub IsOverlong : List ℕ → Type 0
IsOverlong bytes = (10 ≤ length bytes) × AllByRecursion HasTopBit (take 10 bytes)

-- fewer than ten bytes are left, and all have the top bit
abbrev pub IsUnfinished : List ℕ → Type 0
IsUnfinished bytes = (length bytes < 10) × AllByRecursion HasTopBit bytes

-- why no varint stands at the front
abbrev pub VarintFault : List ℕ → WireFault → Type 0
VarintFault bytes Truncated = IsUnfinished bytes
VarintFault bytes VarintTooLong = IsOverlong bytes
VarintFault bytes BadTag = ⊥
VarintFault bytes Group = ⊥
VarintFault bytes OutOfMemory = ⊥
