-- What stands at the front of some bytes: the computed answer is the one that the definitions give.
use Rattle.std.proofs.Common.{
  ◌≡◌,
  ℕ,
  suc,
  ◌+◌,
  ◌<◌,
  ◌≤◌,
  true,
  false,
  cond,
  ltb,
  eqb,
  List,
  [],
  ◌∷◌,
  ◌++◌,
  length,
  take,
  drop,
  refl,
  sym,
  ap,
  ◌∙◌,
  arith,
  inl,
  inr,
}
use Rattle.std.specs.Int.{w32, from_be_bytes, to_be_bytes}
use Rattle.std.proofs.lemmas.Bool.{cases_lt, cases_eq, lt-ltb, le-ltb, eq-eqb, ne_eqb}
use Rattle.std.proofs.lemmas.List.{
  take_at,
  drop_at,
  take-append-drop,
  length-append,
  length-take,
  length-drop,
  get_or-take,
  get_or_past,
}
use Rattle.std.proofs.lemmas.Nat.{be_bytes_4, from_be_bytes-to_be_bytes_4}
use Rattle.lpm.specs.declared.fault.LpmFault.{LpmFault}
use Rattle.lpm.specs.declared.fault.LpmFault.TheVariants.{
  Compressed,
  BadFlag,
  TooLong,
  CutAtEnd,
  OutOfMemory,
}
use Rattle.lpm.specs.Messages.{
  max_message_len,
  frame,
  announced,
  IsMessage,
  IsUnfinished,
  IsFaulty,
  AreBytes,
}
use Rattle.lpm.specs.Reading.{
  Front,
  Whole,
  Unfinished,
  Faulty,
  front_of_message,
  front_of_length,
  front_of,
}

pub length-frame : (message : List ℕ) → length (frame message) ≡ 5 + length message
unfolding frame
length-frame message = omega arith

-- a frame is its header and its message
pub frame-append : (message rest : List ℕ)
    → frame message ++ rest ≡ 0 ∷ (to_be_bytes w32 (length message) ++ (message ++ rest))
unfolding frame
frame-append message rest = refl

-- what a front is said to be
abbrev pub IsFront : List ℕ → Front → Type 0
IsFront bytes (Whole message rest) = IsMessage message × (bytes ≡ frame message ++ rest)
IsFront bytes Unfinished = IsUnfinished bytes
IsFront bytes (Faulty fault) = IsFaulty bytes fault

-- ---- from what the definitions say to what is computed

announced-header : (header rest : List ℕ) → length header ≡ 4
    → announced (header ++ rest) ≡ from_be_bytes w32 header
unfolding announced
announced-header header rest e = ap (from_be_bytes w32) (take_at header rest 4 e)

front_of_length-header : (header rest : List ℕ) → length header ≡ 4
    → front_of_length (header ++ rest) ≡ front_of_message (from_be_bytes w32 header) rest
unfolding front_of_length
front_of_length-header header rest e =
    let long : ltb (length (header ++ rest)) 4 ≡ false =
    le-ltb _ _ (omega (arith, length-append header rest)) in
    rw (long, announced-header header rest e, drop_at header rest 4 e) refl

front_of_message-whole : (message rest : List ℕ) → IsMessage message
    → front_of_message (length message) (message ++ rest) ≡ Whole message rest
unfolding front_of_message
front_of_message-whole message rest fits =
    let lawful : ltb max_message_len (length message) ≡ false = le-ltb _ _ fits in
    let all : ltb (length (message ++ rest)) (length message) ≡ false =
    le-ltb _ _ (omega (arith, length-append message rest)) in
    rw (
      lawful,
      all,
      take_at message rest (length message) refl,
      drop_at message rest (length message) refl,
    ) refl

pub front_of-frame : (message rest : List ℕ) → IsMessage message
    → front_of (frame message ++ rest) ≡ Whole message rest
unfolding front_of
front_of-frame message rest fits =
    ap front_of (frame-append message rest)
    ∙ front_of_length-header (to_be_bytes w32 (length message)) (message ++ rest) refl
    ∙ ap (λ (n : ℕ). front_of_message n (message ++ rest))
    (from_be_bytes-to_be_bytes_4 (length message) (omega (arith, fits)))
    ∙ front_of_message-whole message rest fits

front_of_length-unfinished : (bytes : List ℕ)
    → (4 ≤ length bytes
    → (announced bytes ≤ max_message_len) × (length bytes < 4 + announced bytes))
    → front_of_length bytes ≡ Unfinished
unfolding front_of_length front_of_message
front_of_length-unfinished bytes h = elim (cases_lt (length bytes) 4) [
  | inl lt ↦ rw (lt-ltb (length bytes) 4 lt) refl
  | inr le ↦
      let lawful : ltb max_message_len (announced bytes) ≡ false = le-ltb _ _ (h le).0 in
      let few : ltb (length (drop 4 bytes)) (announced bytes) ≡ true =
      lt-ltb _ _ (omega (arith, length-drop 4 bytes, (h le).1, le)) in
      rw (le-ltb (length bytes) 4 le, lawful, few) refl
]

pub front_of-unfinished : (bytes : List ℕ) → IsUnfinished bytes → front_of bytes ≡ Unfinished
unfolding front_of
front_of-unfinished [] h = refl
front_of-unfinished (flag ∷ bytes) h = rw (eq-eqb flag 0 h.0) (front_of_length-unfinished bytes h.1)

pub front_of-faulty : (bytes : List ℕ) (fault : LpmFault) → IsFaulty bytes fault
    → front_of bytes ≡ Faulty fault
unfolding front_of front_of_length front_of_message
front_of-faulty [] fault h = absurd h
front_of-faulty (flag ∷ bytes) Compressed h =
    rw (ne_eqb flag 0 (λ e. omega (arith, e, h)), eq-eqb flag 1 h) refl
front_of-faulty (flag ∷ bytes) BadFlag h =
    rw (ne_eqb flag 0 (λ e. omega (arith, e, h)), ne_eqb flag 1 (λ e. omega (arith, e, h))) refl
front_of-faulty (flag ∷ bytes) TooLong h =
    rw (
      eq-eqb flag 0 h.0,
      le-ltb (length bytes) 4 h.1,
      lt-ltb max_message_len (announced bytes) h.2,
    ) refl
front_of-faulty (flag ∷ bytes) CutAtEnd h = absurd h
front_of-faulty (flag ∷ bytes) OutOfMemory h = absurd h

-- ---- and back

pub AreBytes-take : (n : ℕ) (bytes : List ℕ) → AreBytes bytes → AreBytes (take n bytes)
AreBytes-take n bytes h i =
    elim (cases_lt i n) [
      | inl lt ↦ rw (get_or-take n bytes i 0 lt) (h i)
      | inr le ↦
          rw (get_or_past (take n bytes) i 0 (omega (arith, length-take n bytes))) (omega arith)
    ]

-- a header and as many bytes as it announces are a frame
pub is_framed : (bytes : List ℕ) → AreBytes (take 4 bytes) → 4 + announced bytes ≤ length bytes
    → 0 ∷ bytes
    ≡ frame (take (announced bytes) (drop 4 bytes)) ++ drop (announced bytes) (drop 4 bytes)
unfolding announced
is_framed bytes fits long =
    let n = from_be_bytes w32 (take 4 bytes) in
    let len : length (take n (drop 4 bytes)) ≡ n =
    omega (arith, length-take n (drop 4 bytes), length-drop 4 bytes) in
    let header : to_be_bytes w32 n ≡ take 4 bytes =
    be_bytes_4 (take 4 bytes) n (omega (arith, length-take 4 bytes)) fits refl in
    let parts : to_be_bytes w32 (length (take n (drop 4 bytes)))
    ++ (take n (drop 4 bytes) ++ drop n (drop 4 bytes)) ≡ bytes =
    ap (λ (k : ℕ). to_be_bytes w32 k ++ (take n (drop 4 bytes) ++ drop n (drop 4 bytes))) len
    ∙ ap (λ (h : List ℕ). h ++ (take n (drop 4 bytes) ++ drop n (drop 4 bytes))) header
    ∙ ap (λ (t : List ℕ). take 4 bytes ++ t) (take-append-drop n (drop 4 bytes))
    ∙ take-append-drop 4 bytes in
    sym (frame-append (take n (drop 4 bytes)) (drop n (drop 4 bytes))
    ∙ ap (λ (b : List ℕ). 0 ∷ b) parts)

front_is_length : (flag : ℕ) (bytes : List ℕ) → flag ≡ 0 → AreBytes bytes
    → IsFront (flag ∷ bytes) (front_of_length bytes)
unfolding front_of_length front_of_message
front_is_length flag bytes zero_flag fits = elim (cases_lt (length bytes) 4) [
  | inl lt ↦ rw (lt-ltb (length bytes) 4 lt) (zero_flag, λ le. absurd (omega (arith, le, lt)))
  | inr le ↦ rw (le-ltb (length bytes) 4 le) (elim (cases_lt max_message_len (announced bytes)) [
    | inl over ↦ rw (lt-ltb max_message_len (announced bytes) over) (zero_flag, le, over)
    | inr lawful ↦
        rw (le-ltb max_message_len (announced bytes) lawful)
        (elim (cases_lt (length (drop 4 bytes)) (announced bytes)) [
          | inl few ↦
              rw (lt-ltb (length (drop 4 bytes)) (announced bytes) few)
              (zero_flag, λ _. (lawful, omega (arith, length-drop 4 bytes, few, le)))
          | inr all ↦ rw (le-ltb (length (drop 4 bytes)) (announced bytes) all) (
            omega (arith, length-take (announced bytes) (drop 4 bytes), lawful),
            rw zero_flag (is_framed bytes (AreBytes-take 4 bytes fits)
                (omega (arith, length-drop 4 bytes, all, le))),
          )
        ])
  ])
]

front_is_flag : (flag : ℕ) (bytes : List ℕ) → (flag ≡ 0 → ⊥)
    → IsFront (flag ∷ bytes) (cond (eqb flag 1) (Faulty Compressed) (Faulty BadFlag))
front_is_flag flag bytes ne = elim (cases_eq flag 1) [
  | inl one ↦ rw (eq-eqb flag 1 one) one
  | inr other ↦ rw (ne_eqb flag 1 other) (omega (arith, ne, other))
]

pub front_is : (bytes : List ℕ) → AreBytes bytes → IsFront bytes (front_of bytes)
unfolding front_of
front_is [] fits = tt
front_is (flag ∷ bytes) fits = elim (cases_eq flag 0) [
  | inl none ↦ rw (eq-eqb flag 0 none) (front_is_length flag bytes none (λ i. fits (suc i)))
  | inr other ↦ rw (ne_eqb flag 0 other) (front_is_flag flag bytes other)
]
