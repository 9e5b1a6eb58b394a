-- Worked examples of the definitions.
use Rattle.std.specs.Prelude.{◌≡◌, ℕ, List, [], ◌∷◌, refl, Some}
use Rattle.std.proofs.Common.{arith}
use Rattle.lpm.specs.declared.fault.LpmFault.TheVariants.{Compressed, TooLong}
use Rattle.lpm.specs.Messages.{frame, frames, announced, IsUnfinished, IsFaulty}
use Rattle.lpm.specs.Reading.{
  front_of_message,
  front_of_length,
  front_of,
  reading_within,
  reading_of,
  messages_of,
  fault_of,
}

-- an empty message, and one of two bytes
pub empty_and_two : frames ([] ∷ (8 ∷ 1 ∷ []) ∷ [])
    ≡ 0 ∷ 0 ∷ 0 ∷ 0 ∷ 0 ∷ 0 ∷ 0 ∷ 0 ∷ 0 ∷ 2 ∷ 8 ∷ 1 ∷ []
unfolding frame
empty_and_two = refl

pub messages_of-empty_and_two : messages_of (0 ∷ 0 ∷ 0 ∷ 0 ∷ 0 ∷ 0 ∷ 0 ∷ 0 ∷ 0 ∷ 2 ∷ 8 ∷ 1 ∷ [])
    ≡ [] ∷ (8 ∷ 1 ∷ []) ∷ []
unfolding announced front_of_message front_of_length front_of reading_within reading_of
messages_of-empty_and_two = refl

-- a length of 4,194,305 is one too many
pub one_too_long : IsFaulty (0 ∷ 0 ∷ 64 ∷ 0 ∷ 1 ∷ []) TooLong
unfolding announced
one_too_long = (refl, omega arith, omega arith)

-- and 4,194,304 is not
pub longest : IsUnfinished (0 ∷ 0 ∷ 64 ∷ 0 ∷ 0 ∷ [])
unfolding announced
longest = (refl, λ _. (omega arith, omega arith))

-- a flag of 1 is a fault by itself, whatever follows
pub compressed : (bytes : List ℕ) → IsFaulty (1 ∷ bytes) Compressed
compressed bytes = refl

-- a message, and then a flag of 1
pub fault_of-compressed : fault_of (0 ∷ 0 ∷ 0 ∷ 0 ∷ 0 ∷ 1 ∷ []) ≡ Some Compressed
unfolding announced front_of_message front_of_length front_of reading_within reading_of
fault_of-compressed = refl

-- an unfinished prefix
pub unfinished : IsUnfinished (0 ∷ 0 ∷ 0 ∷ [])
unfinished = (refl, λ long. absurd (omega arith))
