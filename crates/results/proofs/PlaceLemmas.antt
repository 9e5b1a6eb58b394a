-- Places of cases, in their order.
use Rattle.std.proofs.Common.{
  ◌≡◌,
  ◌++◌,
  ◌+◌,
  ◌<◌,
  ◌≤◌,
  sym,
  subst,
  refl,
  inl,
  inr,
  arith,
  List,
  ℕ,
  [],
  ◌∷◌,
  length,
  get_or,
}
use Rattle.std.specs.Prelude.{Contains}
use Rattle.std.specs.List.Sorted.{IsStrictlyIncreasing}
use Rattle.std.proofs.lemmas.Bool.{cases_lt}
use Rattle.std.proofs.lemmas.List.{get_or_append_left, length_push}
use Rattle.std.proofs.lemmas.List.Elements.{
  Contains-append_left,
  Contains-get_or,
  Contains-push,
  Contains-push_cases,
}
use Rattle.std.proofs.lemmas.Option.{get_or_from_slice_get, slice_get-get_or, slice_get_within}
use Rattle.results.specs.Choices.{ArePlaces, IsChosen, IsPlace}
use Rattle.results.specs.declared.choice.Choice.{Choice}
use Rattle.results.specs.declared.choice.Entry.{Entry}

get_pushed : (xs : List ℕ) (x : ℕ) → get_or (xs ++ x ∷ []) (length xs) 0 ≡ x
get_pushed [] x = refl
get_pushed (y ∷ ys) x = get_pushed ys x

-- one more, above all of them
pub rising_push : (xs : List ℕ) (x : ℕ) → IsStrictlyIncreasing xs
    → ((y : ℕ) → Contains xs y → y < x) → IsStrictlyIncreasing (xs ++ x ∷ [])
rising_push xs x rises below k inside =
    let len = length_push xs x in
    elim (cases_lt (k + 1) (length xs)) [
      | inl h ↦
          rw (
            get_or_append_left xs (x ∷ []) 0 k (omega arith),
            get_or_append_left xs (x ∷ []) 0 (k + 1) h,
          ) (rises k h)
      | inr h ↦ let e : k + 1 ≡ length xs = omega arith in
          rw (get_or_append_left xs (x ∷ []) 0 k (omega arith), e, get_pushed xs x)
          (below _ (Contains-get_or xs k 0 (omega arith)))
    ]

-- the places below a number that have a property, each once and in order
pub record HasPlaces (P : ℕ → Type 0) (end : ℕ) (places : List ℕ) : Type 0 where
  pub rising : IsStrictlyIncreasing places
  pub right : (place : ℕ) → Contains places place → (place < end) × P place
  pub whole : (place : ℕ) → place < end → P place → Contains places place

nothing_in : (place : ℕ) → Contains [] place → ⊥
nothing_in place inside = omega (arith, inside.1)

pub no_places : (P : ℕ → Type 0) → HasPlaces P 0 []
no_places P = record {
  rising = λ k below. absurd (omega arith);
  right = λ place inside. absurd (nothing_in place inside);
  whole = λ place below holds. absurd (omega arith);
}

-- a number that has it
more_right : (P : ℕ → Type 0) (end : ℕ) (places : List ℕ) → HasPlaces P end places → P end
    → (place : ℕ) → Contains (places ++ end ∷ []) place → (place < end + 1) × P place
more_right P end places had here place inside = elim (Contains-push_cases places end place inside) [
  | inl before ↦ let old = had.right place before in (omega (arith, old.0), old.1)
  | inr last ↦ (omega arith, subst P last here)
]

more_whole : (P : ℕ → Type 0) (end : ℕ) (places : List ℕ) → HasPlaces P end places
    → (place : ℕ) → place < end + 1 → P place → Contains (places ++ end ∷ []) place
more_whole P end places had place below holds = elim (cases_lt place end) [
  | inl before ↦ Contains-append_left places (end ∷ []) place (had.whole place before holds)
  | inr last ↦
      let same : end ≡ place = omega arith in
      subst (Contains (places ++ end ∷ [])) same (Contains-push places end)
]

pub one_more : (P : ℕ → Type 0) (end : ℕ) (places : List ℕ) → HasPlaces P end places → P end
    → HasPlaces P (end + 1) (places ++ end ∷ [])
one_more P end places had here = record {
  rising = rising_push places end had.rising (λ place inside. (had.right place inside).0);
  right = more_right P end places had here;
  whole = more_whole P end places had;
}

-- and one that hasn't
pub no_more : (P : ℕ → Type 0) (end : ℕ) (places : List ℕ) → HasPlaces P end places → (P end → ⊥)
    → HasPlaces P (end + 1) places
no_more P end places had out = record {
  rising = had.rising;
  right = λ place inside. let old = had.right place inside in (omega (arith, old.0), old.1);
  whole = λ place below holds. elim (cases_lt place end) [
    | inl before ↦ had.whole place before holds
    | inr last ↦ let same : place ≡ end = omega arith in absurd (out (subst P same holds))
  ];
}

-- a case that is chosen, at its place
pub place_here : (entries : List Entry) (choice : Choice) (place : ℕ) (d : Entry)
    → place < length entries
    → IsChosen choice (get_or entries place d) → IsPlace entries choice place
place_here entries choice place d below chosen =
    (get_or entries place d, slice_get-get_or entries place d below, chosen)

pub no_place_here : (entries : List Entry) (choice : Choice) (place : ℕ) (d : Entry)
    → (IsChosen choice (get_or entries place d) → ⊥) → IsPlace entries choice place → ⊥
no_place_here entries choice place d out at =
    out (subst (IsChosen choice) (sym (get_or_from_slice_get entries place at.0 d at.1)) at.2)

-- all places, at the end
pub all_places : (entries : List Entry) (choice : Choice) (end : ℕ) (places : List ℕ)
    → length entries ≤ end
    → HasPlaces (IsPlace entries choice) end places → ArePlaces entries choice places
all_places entries choice end places past has = (
  has.rising,
  λ place. (
    λ inside. (has.right place inside).1,
    λ at. has.whole place (omega (arith, slice_get_within entries place at.0 at.1)) at,
  ),
)

pub none_left : (entries : List Entry) (choice : Choice) (end : ℕ) (places : List ℕ)
    → length entries ≤ end
    → HasPlaces (IsPlace entries choice) end places → length places ≡ 0 → (place : ℕ)
    → IsPlace entries choice place → ⊥
none_left entries choice end places past has none place at =
    let inside = has.whole place (omega (arith, slice_get_within entries place at.0 at.1)) at in
    omega (arith, inside.1)
