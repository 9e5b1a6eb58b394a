-- How far the message at the front goes.
use Rattle.std.proofs.Common.{
  ◌≡◌,
  ℕ,
  suc,
  ◌+◌,
  ◌<◌,
  ◌≤◌,
  cond,
  ltb,
  eqb,
  List,
  [],
  ◌∷◌,
  ◌++◌,
  length,
  get_or,
  take,
  drop,
  Ok,
  Err,
  refl,
  sym,
  ap,
  subst,
  ◌∙◌,
  append_assoc,
  arith,
  inl,
  inr,
}
use Rattle.std.specs.Int.{w32, from_be_bytes}
use Rattle.std.specs.List.{concat}
use Rattle.std.proofs.lemmas.Bool.{cases_lt, cases_eq, lt-ltb, le-ltb, eq-eqb, ne_eqb}
use Rattle.std.proofs.lemmas.List.{append-nil, nil_from_length, length-take, drop-take, drop-drop}
use Rattle.std.specs.List.{All}
use Rattle.std.proofs.lemmas.List.Elements.{All-push}
use Rattle.std.proofs.lemmas.List.Folds.{concat-append}
use Rattle.lpm.specs.declared.fault.LpmFault.{LpmFault}
use Rattle.lpm.specs.declared.fault.LpmFault.TheVariants.{
  Compressed,
  BadFlag,
  TooLong,
  CutAtEnd,
  OutOfMemory,
}
use Rattle.lpm.specs.declared.splitter.Split.{Split}
use Rattle.lpm.specs.declared.splitter.Split.TheVariants.{Message, More, Fault}
use Rattle.lpm.specs.Messages.{
  max_message_len,
  frame,
  frames,
  announced,
  IsMessage,
  IsUnfinished,
  IsFaulty,
  IsFaultyAfter,
  AreBytes,
}
use Rattle.lpm.specs.Splits.{Stands, Answers, Continues}
use Rattle.lpm.specs.Fronts.{extent_of, Extends, IsExtent, TakesFront, waiting}
use Rattle.lpm.proofs.Fronts.{AreBytes-take, is_framed}
use Rattle.lpm.proofs.Readings.{IsFaulty-longer, frames-push}

-- ---- what `extent_of` means

extends_whole : (bytes : List ℕ) → AreBytes bytes → announced bytes ≤ max_message_len
    → 4 + announced bytes ≤ length bytes
    → IsMessage (drop 5 (take (5 + announced bytes) (0 ∷ bytes)))
    × (0 ∷ bytes
    ≡ frame (drop 5 (take (5 + announced bytes) (0 ∷ bytes)))
    ++ drop (5 + announced bytes) (0 ∷ bytes))
extends_whole bytes fits lawful long =
    let n = announced bytes in
    let message : drop 5 (take (5 + n) (0 ∷ bytes)) ≡ take n (drop 4 bytes) =
    drop-take 5 n (0 ∷ bytes) in
    let rest : drop (5 + n) (0 ∷ bytes) ≡ drop n (drop 4 bytes) =
    sym (drop-drop n 5 (0 ∷ bytes)) in (
      rw message (omega (arith, length-take n (drop 4 bytes), lawful)),
      rw (message, rest) (is_framed bytes (AreBytes-take 4 bytes fits) long),
    )

extent_is_length : (flag : ℕ) (bytes : List ℕ) → flag ≡ 0 → AreBytes bytes
    → IsExtent (flag ∷ bytes) (cond (ltb (length bytes) 4) (Ok 5)
    (cond (ltb max_message_len (announced bytes)) (Err TooLong) (Ok (5 + announced bytes))))
extent_is_length flag bytes zero_flag fits = elim (cases_lt (length bytes) 4) [
  | inl lt ↦
      rw (lt-ltb (length bytes) 4 lt) (record {
        prefix = omega arith;
        unfinished = λ _. (zero_flag, λ le. absurd (omega (arith, le, lt)));
        whole = λ le. absurd (omega (arith, le, lt));
      })
  | inr le ↦ rw (le-ltb (length bytes) 4 le) (elim (cases_lt max_message_len (announced bytes)) [
    | inl over ↦ rw (lt-ltb max_message_len (announced bytes) over) (zero_flag, le, over)
    | inr lawful ↦ rw (le-ltb max_message_len (announced bytes) lawful) (record {
      prefix = omega arith;
      unfinished = λ few. (zero_flag, λ _. (lawful, omega (arith, few)));
      whole = λ all. rw zero_flag (extends_whole bytes fits lawful (omega (arith, all)));
    })
  ])
]

extent_is_flag : (flag : ℕ) (bytes : List ℕ) → (flag ≡ 0 → ⊥)
    → IsExtent (flag ∷ bytes) (cond (eqb flag 1) (Err Compressed) (Err BadFlag))
extent_is_flag flag bytes ne = elim (cases_eq flag 1) [
  | inl one ↦ rw (eq-eqb flag 1 one) one
  | inr other ↦ rw (ne_eqb flag 1 other) (omega (arith, ne, other))
]

pub extent_is : (bytes : List ℕ) → AreBytes bytes → IsExtent bytes (extent_of bytes)
unfolding extent_of
extent_is [] fits =
    record { prefix = omega arith; unfinished = λ _. tt; whole = λ le. absurd (omega (arith, le)) }
extent_is (flag ∷ bytes) fits = elim (cases_eq flag 0) [
  | inl none ↦ rw (eq-eqb flag 0 none) (extent_is_length flag bytes none (λ i. fits (suc i)))
  | inr other ↦ rw (ne_eqb flag 0 other) (extent_is_flag flag bytes other)
]

-- ---- what the code computes

pub extent_of-nil : (bytes : List ℕ) → length bytes ≡ 0 → extent_of bytes ≡ Ok 5
unfolding extent_of
extent_of-nil [] e = refl
extent_of-nil (flag ∷ bytes) e = absurd (omega (arith, e))

pub extent_of-compressed : (bytes : List ℕ) → 0 < length bytes → get_or bytes 0 0 ≡ 1
    → extent_of bytes ≡ Err Compressed
unfolding extent_of
extent_of-compressed [] some e = absurd (omega (arith, some))
extent_of-compressed (flag ∷ bytes) some e =
    rw (ne_eqb flag 0 (λ z. omega (arith, e, z)), eq-eqb flag 1 e) refl

pub extent_of-bad_flag : (bytes : List ℕ) → 0 < length bytes → (get_or bytes 0 0 ≡ 0 → ⊥)
    → (get_or bytes 0 0 ≡ 1 → ⊥) → extent_of bytes ≡ Err BadFlag
unfolding extent_of
extent_of-bad_flag [] some zero_not one_not = absurd (omega (arith, some))
extent_of-bad_flag (flag ∷ bytes) some zero_not one_not =
    rw (ne_eqb flag 0 zero_not, ne_eqb flag 1 one_not) refl

pub extent_of-short : (bytes : List ℕ) → 0 < length bytes → get_or bytes 0 0 ≡ 0 → length bytes < 5
    → extent_of bytes ≡ Ok 5
unfolding extent_of
extent_of-short [] some e short = absurd (omega (arith, some))
extent_of-short (flag ∷ bytes) some e short =
    rw (eq-eqb flag 0 e, lt-ltb (length bytes) 4 (omega (arith, short))) refl

announced-read : (flag : ℕ) (bytes : List ℕ) (n : ℕ) → 4 ≤ length bytes
    → n
    ≡ from_be_bytes w32
    (get_or bytes 0 0 ∷ get_or bytes 1 0 ∷ get_or bytes 2 0 ∷ get_or bytes 3 0 ∷ [])
    → announced bytes ≡ n
unfolding announced
announced-read flag (a ∷ b ∷ c ∷ d ∷ bytes) n le e = sym e
announced-read flag [] n le e = absurd (omega (arith, le))
announced-read flag (a ∷ []) n le e = absurd (omega (arith, le))
announced-read flag (a ∷ b ∷ []) n le e = absurd (omega (arith, le))
announced-read flag (a ∷ b ∷ c ∷ []) n le e = absurd (omega (arith, le))

abbrev pub read_len : List ℕ → ℕ
read_len bytes =
    from_be_bytes w32 (get_or bytes 1 0 ∷ get_or bytes 2 0 ∷ get_or bytes 3 0
    ∷ get_or bytes 4 0 ∷ [])

pub extent_of-too_long : (bytes : List ℕ) (n : ℕ) → get_or bytes 0 0 ≡ 0 → 5 ≤ length bytes
    → n ≡ read_len bytes → max_message_len < n → extent_of bytes ≡ Err TooLong
unfolding extent_of
extent_of-too_long [] n e long is over = absurd (omega (arith, long))
extent_of-too_long (flag ∷ bytes) n e long is over =
    rw (
      eq-eqb flag 0 e,
      le-ltb (length bytes) 4 (omega (arith, long)),
      announced-read flag bytes n (omega (arith, long)) is,
      lt-ltb max_message_len n over,
    ) refl

pub extent_of-lawful : (bytes : List ℕ) (n : ℕ) → get_or bytes 0 0 ≡ 0 → 5 ≤ length bytes
    → n ≡ read_len bytes → n ≤ max_message_len → extent_of bytes ≡ Ok (5 + n)
unfolding extent_of
extent_of-lawful [] n e long is lawful = absurd (omega (arith, long))
extent_of-lawful (flag ∷ bytes) n e long is lawful =
    rw (
      eq-eqb flag 0 e,
      le-ltb (length bytes) 4 (omega (arith, long)),
      announced-read flag bytes n (omega (arith, long)) is,
      le-ltb max_message_len n lawful,
    ) refl

-- ---- answers

pub Stands-from : (fault : LpmFault) (P : Type 0) → P → Stands fault P
Stands-from OutOfMemory P p = tt
Stands-from Compressed P p = p
Stands-from BadFlag P p = p
Stands-from TooLong P p = p
Stands-from CutAtEnd P p = p

pub answers_fault : (front rest : List ℕ) (fault : LpmFault) → IsFaulty front fault
    → Answers (front ++ rest) (Fault fault) (front ++ rest)
answers_fault front rest fault there = (
  Stands-from fault (IsFaulty (front ++ rest) fault) (IsFaulty-longer front rest fault there),
  refl,
)

-- a message that was taken from the front
pub answers_taken : (front rest : List ℕ) (len : ℕ) (split : Split) (left : List ℕ)
    → Extends front len → len ≤ length front → TakesFront front len split left
    → Answers (front ++ rest) split (left ++ rest)
answers_taken front rest len (Message message) left extends all (message_is, left_is) =
    let w = extends.whole all in
    let whole : front ≡ frame message ++ left =
    w.1 ∙ ap (λ (m : List ℕ). frame m ++ drop len front) (sym message_is)
    ∙ ap (λ (r : List ℕ). frame message ++ r) (sym left_is) in (
      subst IsMessage (sym message_is) w.0,
      ap (λ (b : List ℕ). b ++ rest) whole ∙ append_assoc (frame message) left rest,
    )
answers_taken front rest len More left extends all taken = absurd taken
answers_taken front rest len (Fault fault) left extends all (memory, same) = (
  subst (λ (f : LpmFault). Stands f (IsFaulty (front ++ rest) f)) (sym memory) tt,
  ap (λ (b : List ℕ). b ++ rest) same,
)

pub continues : (bytes : List ℕ) (messages : List (List ℕ)) (old : List ℕ)
    (split : Split) (new : List ℕ)
    → All IsMessage messages → bytes ≡ frames messages ++ old → Answers old split new
    → Continues bytes messages split new
continues bytes messages old (Message message) new each whole (fits, old_is) = (
  All-push IsMessage messages message each fits,
  whole ∙ ap (λ (b : List ℕ). frames messages ++ b) old_is ∙ sym (frames-push messages message new),
)
continues bytes messages old More new each whole (unfinished, same) =
    record {
      whole = whole ∙ ap (λ (b : List ℕ). frames messages ++ b) (sym same);
      each = each;
      unfinished = subst IsUnfinished (sym same) unfinished;
    }
continues bytes messages old (Fault fault) new each whole (there, same) =
    (stands fault there, whole ∙ ap (λ (b : List ℕ). frames messages ++ b) (sym same))
  where
    cut : (b : List ℕ) → IsFaulty b CutAtEnd → ⊥
    cut [] h = h
    cut (x ∷ b) h = h

    after : (f : LpmFault) → IsFaulty old f → IsFaultyAfter bytes messages f
    after f faulty = record { rest = old; whole = whole; each = each; faulty = faulty }

    stands : (f : LpmFault) → Stands f (IsFaulty old f) → Stands f (IsFaultyAfter bytes messages f)
    stands OutOfMemory there = tt
    stands Compressed there = after Compressed there
    stands BadFlag there = after BadFlag there
    stands TooLong there = after TooLong there
    stands CutAtEnd there = absurd (cut old there)

-- a piece more
pub waiting-push : (joined piece : List ℕ) (later : List (List ℕ)) (more : List ℕ)
    → waiting joined piece (later ++ more ∷ []) ≡ waiting joined piece later ++ more
waiting-push joined piece later more =
    ap (λ (b : List ℕ). joined ++ (piece ++ b))
    (concat-append later (more ∷ []) ∙ ap (λ (b : List ℕ). concat later ++ b) (append-nil more))
    ∙ ap (λ (b : List ℕ). joined ++ b) (sym (append_assoc piece (concat later) more))
    ∙ sym (append_assoc joined (piece ++ concat later) more)

-- nothing waits behind the joined bytes
pub waiting-joined : (joined piece : List ℕ) (later : List (List ℕ)) → length piece ≡ 0
    → length later ≡ 0 → waiting joined piece later ≡ joined
waiting-joined joined piece later no_piece none_later =
    ap (λ (b : List ℕ). joined ++ (b ++ concat later)) (nil_from_length piece no_piece)
    ∙ ap (λ (ls : List (List ℕ)). joined ++ concat ls) (nil_from_length later none_later)
    ∙ append-nil joined

-- the next piece comes to the front
pub waiting-next : (joined piece next : List ℕ) (later : List (List ℕ)) → length piece ≡ 0
    → waiting joined next later ≡ waiting joined piece (next ∷ later)
waiting-next joined piece next later no_piece =
    ap (λ (b : List ℕ). joined ++ (b ++ (next ++ concat later)))
    (sym (nil_from_length piece no_piece))

-- bytes move from the piece to the joined ones
pub waiting-moved : (joined piece more_joined less : List ℕ) (later : List (List ℕ))
    → more_joined ++ less ≡ joined ++ piece
    → waiting more_joined less later ≡ waiting joined piece later
waiting-moved joined piece more_joined less later e =
    sym (append_assoc more_joined less (concat later)) ∙ ap (λ (b : List ℕ). b ++ concat later) e
    ∙ append_assoc joined piece (concat later)
