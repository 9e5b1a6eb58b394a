-- A payload is its padding's length, its priority, its content and its padding.
use Rattle.std.proofs.Common.{
  ◌≡◌,
  ℕ,
  ◌+◌,
  ◌-◌,
  ◌≤◌,
  Bool,
  true,
  false,
  cond,
  ltb,
  List,
  [],
  ◌∷◌,
  ◌++◌,
  length,
  get_or,
  take,
  drop,
  refl,
  sym,
  ap,
  subst,
  ◌∙◌,
  append_assoc,
  arith,
}
use Rattle.std.proofs.Math.Numerals.{one-add}
use Rattle.std.proofs.lemmas.List.{
  take-append-drop,
  take-take,
  take_at,
  drop-drop,
  drop-take,
  drop_at,
  length-append,
  length-take,
  length-drop,
  nil_from_length,
}
use Rattle.h2frame.specs.declared.flags.Flags.{Flags}
use Rattle.h2frame.specs.declared.frame.FrameHead.{FrameHead}
use Rattle.h2frame.specs.declared.kind.FrameKind.{FrameKind}
use Rattle.h2frame.specs.declared.kind.FrameKind.TheVariants.{
  Data,
  Headers,
  Priority,
  RstStream,
  Settings,
  PushPromise,
  Ping,
  GoAway,
  WindowUpdate,
  Continuation,
  Unknown,
}
use Rattle.std.specs.Prelude.{Some, None}
use Rattle.std.proofs.lemmas.Bool.{leb-true}
use Rattle.h2frame.specs.declared.fault.FrameFault.TheVariants.{TooLong, BadLength, WrongStream}
use Rattle.h2frame.specs.Faults.{max_payload, overhead, head_fault, may_be_on, may_have_length}

-- ---- what a head without a fault has room for

sized_since : (long placed sized : Bool)
    → cond long (Some TooLong) (cond placed (cond sized None (Some BadLength)) (Some WrongStream))
    ≡ None
    → sized ≡ true
sized_since true placed sized e = absurd cc
sized_since false true true e = refl
sized_since false true false e = absurd cc
sized_since false false sized e = absurd cc

abbrev with_length : FrameKind → Flags → ℕ → ℕ → FrameHead
with_length kind flags stream n = record { kind = kind; flags = flags; stream = stream; length = n }

room_by_kind : (kind : FrameKind) (flags : Flags) (stream n : ℕ)
    → may_have_length kind (with_length kind flags stream n) ≡ true
    → overhead (with_length kind flags stream n) ≤ n
room_by_kind Data flags stream n e = leb-true _ _ e
room_by_kind Headers flags stream n e = leb-true _ _ e
room_by_kind Priority flags stream n e = omega arith
room_by_kind RstStream flags stream n e = omega arith
room_by_kind Settings flags stream n e = omega arith
room_by_kind PushPromise flags stream n e = omega arith
room_by_kind Ping flags stream n e = omega arith
room_by_kind GoAway flags stream n e = omega arith
room_by_kind WindowUpdate flags stream n e = omega arith
room_by_kind Continuation flags stream n e = omega arith
room_by_kind (Unknown code) flags stream n e = omega arith

pub room : (head : FrameHead) → head_fault head ≡ None → overhead head ≤ head.length
room head e =
    room_by_kind head.kind head.flags head.stream head.length (sized_since
    (ltb max_payload head.length) (may_be_on head.kind head.stream)
    (may_have_length head.kind head) e)

-- ---- a payload in its parts

-- three parts of a list: the first k, the next m, and what is left
three_parts : (xs : List ℕ) (k m : ℕ) → xs ≡ take k xs ++ (take m (drop k xs) ++ drop (k + m) xs)
three_parts xs k m =
    let inner : drop k xs ≡ take m (drop k xs) ++ drop (k + m) xs =
    sym (take-append-drop m (drop k xs))
    ∙ ap (λ (ys : List ℕ). take m (drop k xs) ++ ys) (drop-drop m k xs) in
    sym (take-append-drop k xs) ∙ ap (λ (ys : List ℕ). take k xs ++ ys) inner

-- what a payload with these flags is made of
pub record Parts (is_padded has_priority : Bool) (payload content : List ℕ) : Type 0 where
  pub priority : List ℕ
  pub padding : List ℕ
  pub text : payload ≡ cond is_padded (length padding ∷ []) [] ++ (priority ++ (content ++ padding))
  pub priority_length : length priority ≡ cond has_priority 5 0
  pub no_padding : is_padded ≡ false → padding ≡ []

-- n bytes of padding, o before the content, and m of it
pub parts : (p q : Bool) (payload : List ℕ) (n o m : ℕ) → n ≡ cond p (get_or payload 0 0) 0
    → o ≡ cond p 1 0 + cond q 5 0 → o + m + n ≡ length payload
    → Parts p q payload (take m (drop o payload))
parts true q [] n o m pad front whole = absurd (omega arith)
parts true q (x ∷ xs) n o m pad front whole =
    let k : ℕ = cond q 5 0 in
    let size : length (drop (k + m) xs) ≡ x = omega (arith, length-drop (k + m) xs, pad) in
    let same : drop o (x ∷ xs) ≡ drop k xs = ap (λ (i : ℕ). drop i (x ∷ xs)) (front ∙ one-add k) in
    subst (λ (ys : List ℕ). Parts true q (x ∷ xs) (take m ys)) (sym same) (record {
      priority = take k xs;
      padding = drop (k + m) xs;
      text =
          ap (λ (y : ℕ). y ∷ xs) (sym size)
          ∙ ap (λ (ys : List ℕ). length (drop (k + m) xs) ∷ ys) (three_parts xs k m);
      priority_length = omega (arith, length-take k xs);
      no_padding = λ e. absurd cc;
    })
parts false q xs n o m pad front whole =
    let k : ℕ = cond q 5 0 in
    let same : o ≡ k = omega (arith, front) in
    subst (λ (i : ℕ). Parts false q xs (take m (drop i xs))) (sym same) (record {
      priority = take k xs;
      padding = drop (k + m) xs;
      text = three_parts xs k m;
      priority_length = omega (arith, length-take k xs);
      no_padding = λ e.
          nil_from_length (drop (k + m) xs) (omega (arith, length-drop (k + m) xs, pad));
    })

-- the first part of a list from o on lies in its first l
pub within : (xs : List ℕ) (o m l : ℕ) → o + m ≤ l
    → take m (drop o (take l xs)) ≡ take m (drop o xs)
within xs o m l le =
    let split : l ≡ o + (l - o) = omega arith in
    ap (λ (i : ℕ). take m (drop o (take i xs))) split
    ∙ ap (λ (ys : List ℕ). take m ys) (drop-take o (l - o) xs)
    ∙ take-take m (l - o) (drop o xs) (omega arith)

-- ---- a payload's parts are read from it

-- the padding's length, the content, and the length of the whole are those of the parts
pub record ReadsParts (p q : Bool) (content padding payload rest : List ℕ) : Type 0 where
  pub pad : cond p (get_or (payload ++ rest) 0 0) 0 ≡ length padding
  pub middle : take (length content) (drop (cond p 1 0 + cond q 5 0) (payload ++ rest)) ≡ content
  pub whole : length payload ≡ (cond p 1 0 + cond q 5 0) + length content + length padding

middle_at : (k : ℕ) (priority content padding rest : List ℕ) → length priority ≡ k
    → take (length content) (drop k ((priority ++ (content ++ padding)) ++ rest)) ≡ content
middle_at k priority content padding rest size =
    let regrouped : (priority ++ (content ++ padding)) ++ rest ≡ priority
    ++ (content ++ (padding ++ rest)) =
    append_assoc priority (content ++ padding) rest
    ∙ ap (λ (ys : List ℕ). priority ++ ys) (append_assoc content padding rest) in
    ap (λ (ys : List ℕ). take (length content) (drop k ys)) regrouped
    ∙ ap (λ (ys : List ℕ). take (length content) ys)
    (drop_at priority (content ++ (padding ++ rest)) k size)
    ∙ take_at content (padding ++ rest) (length content) refl

length_of_parts : (priority content padding : List ℕ)
    → length (priority ++ (content ++ padding)) ≡ length priority + length content + length padding
length_of_parts priority content padding =
    omega (arith, length-append priority (content ++ padding), length-append content padding)

pub reads_parts : (p q : Bool) (priority content padding rest : List ℕ)
    → length priority ≡ cond q 5 0 → (p ≡ false → padding ≡ [])
    → ReadsParts p q content padding
    (cond p (length padding ∷ []) [] ++ (priority ++ (content ++ padding))) rest
reads_parts true q priority content padding rest size none = record {
  pad = refl;
  middle =
      ap (λ (i : ℕ).
      take (length content)
      (drop i (length padding ∷ ((priority ++ (content ++ padding)) ++ rest))))
      (one-add (cond q 5 0))
      ∙ middle_at (cond q 5 0) priority content padding rest size;
  whole = omega (arith, length_of_parts priority content padding, size);
}
reads_parts false q priority content padding rest size none = record {
  pad = sym (ap length (none refl));
  middle = middle_at (0 + cond q 5 0) priority content padding rest (omega (arith, size));
  whole = omega (arith, length_of_parts priority content padding, size);
}
