-- How far the message at the front of some bytes goes. Only the crate's own functions use these
-- words.
use Rattle.std.specs.Prelude.{
  ◌≡◌,
  ℕ,
  ◌+◌,
  ◌*◌,
  ◌<◌,
  ◌≤◌,
  ◌==◌,
  nat_lt,
  if◌then◌else◌,
  List,
  [],
  ◌∷◌,
  ◌++◌,
  length,
  take,
  drop,
  Result,
  Ok,
  Err,
}
use Rattle.std.specs.List.{concat}
use Rattle.lpm.specs.declared.fault.LpmFault.{LpmFault}
use Rattle.lpm.specs.declared.fault.LpmFault.TheVariants.{Compressed, BadFlag, TooLong, OutOfMemory}
use Rattle.lpm.specs.declared.splitter.Split.{Split}
use Rattle.lpm.specs.declared.splitter.Split.TheVariants.{Message, More, Fault}
use Rattle.lpm.specs.Messages.{max_message_len, frame, announced, IsMessage, IsUnfinished, IsFaulty}

-- how many bytes the message at the front has with its prefix, as far as these bytes say, or its
-- fault
unfoldable pub extent_of : List ℕ → Result ℕ LpmFault
extent_of [] = Ok 5
extent_of (flag ∷ bytes) =
    if flag == 0
    then (if nat_lt (length bytes) 4 then Ok 5
    else (if nat_lt max_message_len (announced bytes) then Err TooLong
    else Ok (5 + announced bytes)))
    else (if flag == 1 then Err Compressed else Err BadFlag)

-- what a number of bytes says of the message at the front
pub record Extends (bytes : List ℕ) (len : ℕ) : Type 0 where
  pub prefix : 5 ≤ len
  pub unfinished : length bytes < len → IsUnfinished bytes
  pub whole : len ≤ length bytes
      → IsMessage (drop 5 (take len bytes))
      × (bytes ≡ frame (drop 5 (take len bytes)) ++ drop len bytes)

abbrev pub IsExtent : List ℕ → Result ℕ LpmFault → Type 0
IsExtent bytes (Ok len) = Extends bytes len
IsExtent bytes (Err fault) = IsFaulty bytes fault

-- the message of len bytes with its prefix leaves the front, or there was no memory
abbrev pub TakesFront : List ℕ → ℕ → Split → List ℕ → Type 0
TakesFront old len (Message message) new = (message ≡ drop 5 (take len old)) × (new ≡ drop len old)
TakesFront old len More new = ⊥
TakesFront old len (Fault fault) new = (fault ≡ OutOfMemory) × (new ≡ old)

-- the bytes that wait in a splitter
abbrev pub waiting : List ℕ → List ℕ → List (List ℕ) → List ℕ
waiting joined piece later = joined ++ (piece ++ concat later)

-- what a splitter still has to look at
abbrev pub left_over : List ℕ → List (List ℕ) → ℕ
left_over piece later = length piece + 2 * length (concat later) + length later
