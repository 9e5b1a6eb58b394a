-- The reading of whole messages and more behind them.
use Rattle.std.proofs.Common.{
  ◌≡◌,
  ℕ,
  zero,
  suc,
  ◌<◌,
  ◌≤◌,
  Bool,
  true,
  false,
  cond,
  eqb,
  List,
  [],
  ◌∷◌,
  ◌++◌,
  length,
  drop,
  None,
  refl,
  ap,
  ◌∙◌,
  arith,
  inl,
  inr,
}
use Rattle.std.specs.List.{All}
use Rattle.std.proofs.lemmas.Bool.{cases_lt, cases_eq, lt-ltb, le-ltb, eq-eqb, ne_eqb}
use Rattle.std.proofs.lemmas.List.{length-append, length-drop}
use Rattle.std.proofs.lemmas.List.Elements.{All-head, All-tail}
use Rattle.lpm.specs.declared.fault.LpmFault.TheVariants.{Compressed, BadFlag}
use Rattle.lpm.specs.Messages.{max_message_len, frame, frames, announced, IsMessage}
use Rattle.lpm.specs.Reading.{
  Front,
  Whole,
  Unfinished,
  Faulty,
  front_of_message,
  front_of_length,
  front_of,
  Reading,
  ended,
  with_front,
  reading_behind,
  reading_within,
  reading_of,
}
use Rattle.lpm.proofs.Fronts.{front_of-frame}
use Rattle.lpm.proofs.Readings.{frames-cons}

-- what stands behind a message is shorter
abbrev IsShorter : ℕ → Front → Type 0
IsShorter len (Whole message rest) = length rest < len
IsShorter len Unfinished = Unit {0}
IsShorter len (Faulty fault) = Unit {0}

front_shorter_message : (n : ℕ) (bytes : List ℕ) (len : ℕ) → length bytes < len
    → IsShorter len (front_of_message n bytes)
unfolding front_of_message
front_shorter_message n bytes len lt = elim (cases_lt max_message_len n) [
  | inl over ↦ rw (lt-ltb max_message_len n over) tt
  | inr lawful ↦ rw (le-ltb max_message_len n lawful) (elim (cases_lt (length bytes) n) [
    | inl few ↦ rw (lt-ltb (length bytes) n few) tt
    | inr all ↦ rw (le-ltb (length bytes) n all) (omega (arith, length-drop n bytes, lt))
  ])
]

front_shorter_length : (bytes : List ℕ) → IsShorter (suc (length bytes)) (front_of_length bytes)
unfolding front_of_length
front_shorter_length bytes = elim (cases_lt (length bytes) 4) [
  | inl lt ↦ rw (lt-ltb (length bytes) 4 lt) tt
  | inr le ↦
      rw (le-ltb (length bytes) 4 le) (front_shorter_message (announced bytes) (drop 4 bytes)
      (suc (length bytes)) (omega (arith, length-drop 4 bytes)))
]

front_shorter_flag : (len : ℕ) (b : Bool)
    → IsShorter len (cond b (Faulty Compressed) (Faulty BadFlag))
front_shorter_flag len true = tt
front_shorter_flag len false = tt

front_shorter : (bytes : List ℕ) → IsShorter (length bytes) (front_of bytes)
unfolding front_of
front_shorter [] = tt
front_shorter (flag ∷ bytes) = elim (cases_eq flag 0) [
  | inl none ↦ rw (eq-eqb flag 0 none) (front_shorter_length bytes)
  | inr other ↦ rw (ne_eqb flag 0 other) (front_shorter_flag (suc (length bytes)) (eqb flag 1))
]

behind_same : (front : Front) (bytes : List ℕ) (f g : List ℕ → Reading)
    → IsShorter (length bytes) front
    → ((rest : List ℕ) → length rest < length bytes → f rest ≡ g rest)
    → reading_behind front bytes f ≡ reading_behind front bytes g
behind_same (Whole message rest) bytes f g shorter same =
    ap (with_front message) (same rest shorter)
behind_same Unfinished bytes f g shorter same = refl
behind_same (Faulty fault) bytes f g shorter same = refl

-- more steps than there are bytes change nothing
reading_within-more : (n m : ℕ) (bytes : List ℕ) → length bytes ≤ n → length bytes ≤ m
    → reading_within n bytes ≡ reading_within m bytes
unfolding reading_within
reading_within-more zero zero bytes p q = refl
reading_within-more zero (suc m) bytes p q =
    behind_same (front_of bytes) bytes (λ rest. ended rest None) (reading_within m)
    (front_shorter bytes) (λ rest lt. absurd (omega (arith, lt, p)))
reading_within-more (suc n) zero bytes p q =
    behind_same (front_of bytes) bytes (reading_within n) (λ rest. ended rest None)
    (front_shorter bytes) (λ rest lt. absurd (omega (arith, lt, q)))
reading_within-more (suc n) (suc m) bytes p q =
    behind_same (front_of bytes) bytes (reading_within n) (reading_within m) (front_shorter bytes)
    (λ rest lt. reading_within-more n m rest (omega (arith, lt, p)) (omega (arith, lt, q)))

step : (n : ℕ) (bytes : List ℕ)
    → reading_within (suc n) bytes ≡ reading_behind (front_of bytes) bytes (reading_within n)
unfolding reading_within
step n bytes = refl

pub reading_of-frame : (message rest : List ℕ) → IsMessage message
    → reading_of (frame message ++ rest) ≡ with_front message (reading_of rest)
unfolding reading_of
reading_of-frame message rest fits =
    let all = frame message ++ rest in
    let n = length all in
    let longer : length rest ≤ n = omega (arith, length-append (frame message) rest) in
    reading_within-more n (suc n) all (omega arith) (omega arith)
    ∙ step n all
    ∙ ap (λ (f : Front). reading_behind f all (reading_within n)) (front_of-frame message rest fits)
    ∙ ap (with_front message) (reading_within-more n (length rest) rest longer (omega arith))

-- messages before a reading
abbrev pub before : List (List ℕ) → Reading → Reading
before messages reading =
    record { messages = messages ++ reading.messages; rest = reading.rest; fault = reading.fault }

pub reading_of-frames : (messages : List (List ℕ)) (rest : List ℕ) → All IsMessage messages
    → reading_of (frames messages ++ rest) ≡ before messages (reading_of rest)
reading_of-frames [] rest each = refl
reading_of-frames (message ∷ messages) rest each =
    ap reading_of (frames-cons message messages rest)
    ∙ reading_of-frame message (frames messages ++ rest) (All-head IsMessage message messages each)
    ∙ ap (with_front message)
    (reading_of-frames messages rest (All-tail IsMessage message messages each))
