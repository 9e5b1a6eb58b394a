-- What is known of the rest behind the last whole message by its first five bytes and its length.
use Rattle.std.proofs.Common.{
  take-add,
  ◌≡◌,
  ℕ,
  suc,
  ◌+◌,
  ◌<◌,
  ◌≤◌,
  Bool,
  true,
  false,
  cond,
  ltb,
  eqb,
  List,
  [],
  ◌∷◌,
  ◌++◌,
  length,
  get_or,
  take,
  drop,
  Result,
  Ok,
  Err,
  refl,
  sym,
  ap,
  subst,
  ◌∙◌,
  append_assoc,
  arith,
  ◌⊎◌,
  inl,
  inr,
}
use Rattle.std.specs.List.{All, concat}
use Rattle.std.proofs.lemmas.Bool.{cases_lt, cases_eq, lt-ltb, le-ltb, eq-eqb, ne_eqb}
use Rattle.std.proofs.lemmas.List.{
  append-nil,
  length-append,
  length-take,
  length-drop,
  take_all,
  take-take,
  take-append-drop,
  take-append-le,
  take_more,
  drop_all,
  nil_from_length,
}
use Rattle.std.proofs.lemmas.List.Folds.{concat-append}
use Rattle.std.proofs.lemmas.List.Elements.{All-push}
use Rattle.lpm.specs.declared.fault.LpmFault.{LpmFault}
use Rattle.lpm.specs.declared.fault.LpmFault.TheVariants.{Compressed, BadFlag, TooLong}
use Rattle.lpm.specs.declared.tail.Tail.{Tail}
use Rattle.lpm.specs.Messages.{
  max_message_len,
  frame,
  frames,
  announced,
  IsMessage,
  IsUnfinished,
  IsFaulty,
  AreBytes,
  IsCut,
  IsNotCut,
}
use Rattle.lpm.specs.Fronts.{extent_of}
use Rattle.lpm.specs.Tails.{Leaves, IsFaultySomewhere}
use Rattle.lpm.proofs.Fronts.{is_framed}
use Rattle.lpm.proofs.Readings.{IsFaulty-longer, IsFaultyAfter-longer, frames-push}

-- ---- from an extent to what it says

-- why an extent is what it is
abbrev Because : ℕ → List ℕ → Result ℕ LpmFault → Type 0
Because flag bytes (Ok n) =
    (flag ≡ 0)
    × (((length bytes < 4) × (n ≡ 5))
    ⊎ ((4 ≤ length bytes) × (announced bytes ≤ max_message_len) × (n ≡ 5 + announced bytes)))
Because flag bytes (Err fault) = Unit {0}

because_length : (flag : ℕ) (bytes : List ℕ) → flag ≡ 0
    → Because flag bytes (cond (ltb (length bytes) 4) (Ok 5)
    (cond (ltb max_message_len (announced bytes)) (Err TooLong) (Ok (5 + announced bytes))))
because_length flag bytes z = elim (cases_lt (length bytes) 4) [
  | inl lt ↦ rw (lt-ltb (length bytes) 4 lt) (z, inl (lt, refl))
  | inr le ↦ rw (le-ltb (length bytes) 4 le) (elim (cases_lt max_message_len (announced bytes)) [
    | inl over ↦ rw (lt-ltb max_message_len (announced bytes) over) tt
    | inr lawful ↦ rw (le-ltb max_message_len (announced bytes) lawful) (z, inr (le, lawful, refl))
  ])
]

because_flag : (flag : ℕ) (bytes : List ℕ) (b : Bool)
    → Because flag bytes (cond b (Err Compressed) (Err BadFlag))
because_flag flag bytes true = tt
because_flag flag bytes false = tt

because : (flag : ℕ) (bytes : List ℕ) → Because flag bytes (extent_of (flag ∷ bytes))
unfolding extent_of
because flag bytes = elim (cases_eq flag 0) [
  | inl none ↦ rw (eq-eqb flag 0 none) (because_length flag bytes none)
  | inr other ↦ rw (ne_eqb flag 0 other) (because_flag flag bytes (eqb flag 1))
]

because_ok : (flag : ℕ) (bytes : List ℕ) (n : ℕ) → extent_of (flag ∷ bytes) ≡ Ok n
    → Because flag bytes (Ok n)
because_ok flag bytes n e = subst (Because flag bytes) e (because flag bytes)

pub extent_of-le : (bytes : List ℕ) (n : ℕ) → extent_of bytes ≡ Ok n → 5 ≤ n
unfolding extent_of
extent_of-le [] n e = let same : 5 ≡ n = cc in omega (arith, same)
extent_of-le (flag ∷ bytes) n e = elim (because_ok flag bytes n e).1 [
  | inl few ↦ omega (arith, few.1)
  | inr all ↦ omega (arith, all.2)
]

pub extent_of-five : (bytes : List ℕ) (n : ℕ) → length bytes < 5 → extent_of bytes ≡ Ok n → n ≡ 5
unfolding extent_of
extent_of-five [] n lt e = cc
extent_of-five (flag ∷ bytes) n lt e = elim (because_ok flag bytes n e).1 [
  | inl few ↦ few.1
  | inr all ↦ absurd (omega (arith, all.0, lt))
]

pub unfinished_from : (bytes : List ℕ) (n : ℕ) → extent_of bytes ≡ Ok n → length bytes < n
    → IsUnfinished bytes
unfinished_from [] n e lt = tt
unfinished_from (flag ∷ bytes) n e lt =
    let why = because_ok flag bytes n e in (
      why.0,
      λ le. elim why.1 [
        | inl few ↦ absurd (omega (arith, le, few.0))
        | inr all ↦ (all.1, omega (arith, all.2, lt))
      ],
    )

whole_behind : (bytes : List ℕ) → AreBytes (take 4 bytes) → announced bytes ≤ max_message_len
    → length bytes ≡ 4 + announced bytes
    → IsMessage (drop 4 bytes) × (0 ∷ bytes ≡ frame (drop 4 bytes))
whole_behind bytes fits lawful len =
    let n = announced bytes in
    let message : take n (drop 4 bytes) ≡ drop 4 bytes =
    take_all n (drop 4 bytes) (omega (arith, length-drop 4 bytes, len)) in
    let rest : drop n (drop 4 bytes) ≡ [] =
    drop_all n (drop 4 bytes) (omega (arith, length-drop 4 bytes, len)) in (
      omega (arith, length-drop 4 bytes, len, lawful),
      is_framed bytes fits (omega (arith, len))
          ∙ ap (λ (r : List ℕ). frame (take n (drop 4 bytes)) ++ r) rest
          ∙ append-nil (frame (take n (drop 4 bytes)))
          ∙ ap frame message,
    )

pub whole_from : (bytes : List ℕ) (n : ℕ) → AreBytes (take 5 bytes) → extent_of bytes ≡ Ok n
    → length bytes ≡ n → IsMessage (drop 5 bytes) × (bytes ≡ frame (drop 5 bytes))
unfolding extent_of
whole_from [] n fits e len = let same : 5 ≡ n = cc in absurd (omega (arith, same, len))
whole_from (flag ∷ bytes) n fits e len =
    let why = because_ok flag bytes n e in
    elim why.1 [
      | inl few ↦ absurd (omega (arith, few.0, few.1, len))
      | inr all ↦
          let w = whole_behind bytes (λ i. fits (suc i)) all.1 (omega (arith, all.2, len)) in
          (w.0, ap (λ (f : ℕ). f ∷ bytes) why.0 ∙ w.1)
    ]

-- ---- the first five bytes say it

extent_of-take_behind : (flag : ℕ) (bytes : List ℕ)
    → extent_of (flag ∷ take 4 bytes) ≡ extent_of (flag ∷ bytes)
unfolding extent_of announced
extent_of-take_behind flag bytes = elim (cases_lt (length bytes) 4) [
  | inl lt ↦ ap (λ (b : List ℕ). extent_of (flag ∷ b)) (take_all 4 bytes (omega (arith, lt)))
  | inr le ↦
      rw (
        take-take 4 4 bytes (omega arith),
        le-ltb (length (take 4 bytes)) 4 (omega (arith, length-take 4 bytes, le)),
        le-ltb (length bytes) 4 le,
      ) refl
]

pub extent_of-take : (bytes : List ℕ) → extent_of (take 5 bytes) ≡ extent_of bytes
extent_of-take [] = refl
extent_of-take (flag ∷ bytes) = extent_of-take_behind flag bytes

-- ---- tails

-- what the known bytes say of the rest
pub extent_of-rest : (bytes known : List ℕ) (tail : Tail) (l : Leaves bytes tail)
    → known ≡ take tail.len tail.prefix → extent_of l.rest ≡ extent_of known
extent_of-rest bytes known tail l e = sym (extent_of-take l.rest) ∙ ap extent_of (l.known ∙ sym e)

pub leaves_cut : (bytes known : List ℕ) (tail : Tail) (total : ℕ) → Leaves bytes tail
    → known ≡ take tail.len tail.prefix → Ok total ≡ extent_of known → 0 < tail.len
    → tail.len < total → IsCut bytes
leaves_cut bytes known tail total l e says some few = record {
  messages = l.messages;
  rest = l.rest;
  spells = record {
    whole = l.whole;
    each = l.each;
    unfinished =
        unfinished_from l.rest total (extent_of-rest bytes known tail l e ∙ sym says)
        (omega (arith, l.len, few));
  };
  some = omega (arith, l.len, some);
}

-- the rest is a whole message
pub record Ended (bytes : List ℕ) : Type 0 where
  pub messages : List (List ℕ)
  pub whole : bytes ≡ frames messages
  pub each : All IsMessage messages

pub leaves_whole : (bytes known : List ℕ) (tail : Tail) (total : ℕ) → Leaves bytes tail
    → known ≡ take tail.len tail.prefix → AreBytes known → Ok total ≡ extent_of known
    → total ≤ tail.len → Ended bytes
leaves_whole bytes known tail total l e fits says all =
    let upto : tail.len ≤ total = tail.within total (ap extent_of (sym e) ∙ sym says) in
    let w =
    whole_from l.rest total (subst AreBytes (e ∙ sym l.known) fits)
    (extent_of-rest bytes known tail l e ∙ sym says) (omega (arith, l.len, upto, all)) in
    let message = drop 5 l.rest in
    record {
      messages = l.messages ++ message ∷ [];
      whole =
          l.whole
          ∙ ap (λ (r : List ℕ). frames l.messages ++ r) (w.1 ∙ sym (append-nil (frame message)))
          ∙ sym (frames-push l.messages message [])
          ∙ append-nil (frames (l.messages ++ message ∷ []));
      each = All-push IsMessage l.messages message l.each w.0;
    }

pub ended_not_cut : (bytes : List ℕ) → Ended bytes → IsNotCut bytes
ended_not_cut bytes ended = inl (
  ended.messages,
  record {
    whole = ended.whole ∙ sym (append-nil (frames ended.messages));
    each = ended.each;
    unfinished = tt;
  },
)

pub ended_leaves : (bytes : List ℕ) (tail : Tail) → tail.len ≡ 0 → Ended bytes → Leaves bytes tail
ended_leaves bytes tail none ended = record {
  messages = ended.messages;
  rest = [];
  whole = ended.whole ∙ sym (append-nil (frames ended.messages));
  each = ended.each;
  len = sym none;
  known = rw none refl;
}

pub leaves_nothing : (bytes : List ℕ) (tail : Tail) → tail.len ≡ 0
    → Leaves bytes tail → IsNotCut bytes
leaves_nothing bytes tail none l =
    let nothing : l.rest ≡ [] = nil_from_length l.rest (l.len ∙ none) in
    inl (
      l.messages,
      record {
        whole = l.whole ∙ ap (λ (r : List ℕ). frames l.messages ++ r) nothing;
        each = l.each;
        unfinished = tt;
      },
    )

pub leaves_fault : (bytes known : List ℕ) (tail : Tail) (fault : LpmFault) → Leaves bytes tail
    → known ≡ take tail.len tail.prefix → IsFaulty known fault → IsFaultySomewhere bytes fault
leaves_fault bytes known tail fault l e there =
    let front : IsFaulty (take 5 l.rest) fault =
    subst (λ (b : List ℕ). IsFaulty b fault) (e ∙ sym l.known) there in
    let all : IsFaulty l.rest fault =
    subst (λ (b : List ℕ). IsFaulty b fault) (take-append-drop 5 l.rest)
    (IsFaulty-longer (take 5 l.rest) (drop 5 l.rest) fault front) in
    (l.messages, record { rest = l.rest; whole = l.whole; each = l.each; faulty = all })

pub fault_not_cut : (bytes : List ℕ) (fault : LpmFault)
    → IsFaultySomewhere bytes fault → IsNotCut bytes
fault_not_cut bytes fault (messages, there) = inr (messages, fault, there)

-- some bytes more of the rest
pub leaves_more : (bytes more : List ℕ) (old new : Tail) → Leaves bytes old
    → new.len ≡ old.len + length more
    → take 5 (take old.len old.prefix ++ more) ≡ take new.len new.prefix
    → Leaves (bytes ++ more) new
leaves_more bytes more old new l len known = record {
  messages = l.messages;
  rest = l.rest ++ more;
  whole = ap (λ (b : List ℕ). b ++ more) l.whole ∙ append_assoc (frames l.messages) l.rest more;
  each = l.each;
  len = omega (arith, length-append l.rest more, l.len, len);
  known = front ∙ known;
}
  where
    front : take 5 (l.rest ++ more) ≡ take 5 (take old.len old.prefix ++ more)
    front = elim (cases_lt (length l.rest) 5) [
      | inl lt ↦
          ap (λ (b : List ℕ). take 5 (b ++ more))
          (sym (take_all 5 l.rest (omega (arith, lt))) ∙ l.known)
      | inr le ↦
          take-append-le 5 l.rest more le ∙ sym (take-take 5 5 l.rest (omega arith))
          ∙ ap (take 5) l.known
          ∙ sym (take-append-le 5 (take old.len old.prefix) more
          (omega (arith, length-take old.len old.prefix, l.len, le, old.five)))
    ]

-- what is known with some bytes more, before the prefix is whole and after it
pub known_short : (prefix longer more : List ℕ) (len count : ℕ) → length more ≡ count
    → len + count ≤ 5 → take (len + length more) longer ≡ take len prefix ++ more
    → take 5 (take len prefix ++ more) ≡ take (len + count) longer
known_short prefix longer more len count e short is =
    take_all 5 (take len prefix ++ more)
    (omega (arith, length-append (take len prefix) more, length-take len prefix, e, short))
    ∙ sym is ∙ ap (λ (n : ℕ). take (len + n) longer) e

pub known_long : (prefix more : List ℕ) (len count : ℕ) → length prefix ≡ 5 → 5 ≤ len
    → take 5 (take len prefix ++ more) ≡ take (len + count) prefix
known_long prefix more len count five long =
    ap (λ (p : List ℕ). take 5 (p ++ more)) (take_all len prefix (omega (arith, five, long)))
    ∙ take-append-le 5 prefix more (omega (arith, five))
    ∙ take_all 5 prefix (omega (arith, five))
    ∙ sym (take_all (len + count) prefix (omega (arith, five, long)))

pub fault_longer : (bytes more : List ℕ) (fault : LpmFault) → IsFaultySomewhere bytes fault
    → IsFaultySomewhere (bytes ++ more) fault
fault_longer bytes more fault (messages, there) =
    (messages, IsFaultyAfter-longer bytes more messages fault there)

-- a front of the piece, and what follows it
pub read_on : (bytes piece : List ℕ) (at count : ℕ)
    → (bytes ++ take at piece) ++ take count (drop at piece) ≡ bytes ++ take (at + count) piece
read_on bytes piece at count =
    append_assoc bytes (take at piece) (take count (drop at piece))
    ∙ ap (λ (t : List ℕ). bytes ++ t) (sym (take-add at count piece))

pub read_all : (bytes piece : List ℕ) (at : ℕ)
    → (bytes ++ take at piece) ++ drop at piece ≡ bytes ++ piece
read_all bytes piece at =
    append_assoc bytes (take at piece) (drop at piece)
    ∙ ap (λ (t : List ℕ). bytes ++ t) (take-append-drop at piece)

-- a piece more is read
pub pieces_more : (bytes : List ℕ) (pieces : List (List ℕ)) (i : ℕ) (piece : List ℕ)
    → i < length pieces → piece ≡ get_or pieces i piece
    → (bytes ++ concat (take i pieces)) ++ piece ≡ bytes ++ concat (take (i + 1) pieces)
pieces_more bytes pieces i piece lt is =
    append_assoc bytes (concat (take i pieces)) piece
    ∙ ap (λ (p : List ℕ). bytes ++ (concat (take i pieces) ++ p))
    (is ∙ sym (append-nil (get_or pieces i piece)))
    ∙ ap (λ (b : List ℕ). bytes ++ b)
    (sym (concat-append (take i pieces) (get_or pieces i piece ∷ [])))
    ∙ ap (λ (ps : List (List ℕ)). bytes ++ concat ps) (sym (take_more pieces i piece lt))

-- and the others behind it
pub pieces_all : (bytes : List ℕ) (pieces : List (List ℕ)) (n : ℕ)
    → (bytes ++ concat (take n pieces)) ++ concat (drop n pieces) ≡ bytes ++ concat pieces
pieces_all bytes pieces n =
    append_assoc bytes (concat (take n pieces)) (concat (drop n pieces))
    ∙ ap (λ (b : List ℕ). bytes ++ b) (sym (concat-append (take n pieces) (drop n pieces)))
    ∙ ap (λ (ps : List (List ℕ)). bytes ++ concat ps) (take-append-drop n pieces)
