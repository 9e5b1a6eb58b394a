-- What a splitter answers, by the bytes that it was given, without those of the messages that it
-- answered.
use Rattle.std.specs.Prelude.{◌≡◌, ℕ, List, [], ◌∷◌, ◌++◌, All}
use Rattle.lpm.specs.declared.fault.LpmFault.{LpmFault}
use Rattle.lpm.specs.declared.fault.LpmFault.TheVariants.{
  Compressed,
  BadFlag,
  TooLong,
  CutAtEnd,
  OutOfMemory,
}
use Rattle.lpm.specs.declared.splitter.Split.{Split}
use Rattle.lpm.specs.declared.splitter.Split.TheVariants.{Message, More, Fault}
use Rattle.lpm.specs.Messages.{
  frame,
  frames,
  IsMessage,
  IsUnfinished,
  IsFaulty,
  Spells,
  IsFaultyAfter,
}

-- the bytes have the fault, unless it is want of memory
abbrev pub Stands : LpmFault → Type 0 → Type 0
Stands OutOfMemory there = Unit {0}
Stands Compressed there = there
Stands BadFlag there = there
Stands TooLong there = there
Stands CutAtEnd there = there

-- one answer: a message leaves the front, and nothing else changes anything
abbrev pub Answers : List ℕ → Split → List ℕ → Type 0
Answers old (Message message) new = IsMessage message × (old ≡ frame message ++ new)
Answers old More new = IsUnfinished old × (new ≡ old)
Answers old (Fault fault) new = Stands fault (IsFaulty old fault) × (new ≡ old)

-- one answer, by all bytes that were given so far and the messages that were answered before
abbrev pub Continues : List ℕ → List (List ℕ) → Split → List ℕ → Type 0
Continues bytes messages (Message message) left =
    All IsMessage (messages ++ message ∷ []) × (bytes ≡ frames (messages ++ message ∷ []) ++ left)
Continues bytes messages More left = Spells bytes messages left
Continues bytes messages (Fault fault) left =
    Stands fault (IsFaultyAfter bytes messages fault) × (bytes ≡ frames messages ++ left)
