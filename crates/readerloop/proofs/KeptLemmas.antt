-- The calls that were admitted, by their ids.
use Rattle.std.proofs.Common.{
  ◌≡◌,
  ℕ,
  suc,
  ◌<◌,
  ◌≤◌,
  Bool,
  true,
  false,
  nat_eq,
  List,
  [],
  ◌∷◌,
  ◌++◌,
  Option,
  None,
  Some,
  arith,
  refl,
  subst,
  sym,
}
use Rattle.std.specs.Prelude.{◌||◌, All, Contains, MatchOption, unwrap_or}
use Rattle.std.specs.List.{list_any}
use Rattle.std.proofs.lemmas.Bool.{eqb-true}
use Rattle.std.proofs.lemmas.List.{append-nil}
use Rattle.std.proofs.lemmas.List.Elements.{All-append, All-cons, All-contains, All-nil}
use Rattle.readerloop.specs.Calls.{is_admitted}
use Rattle.readerloop.specs.Steps.{Step, admitted, admitted_by, last_of, once, IsRising}

below-with : (found : Option ℕ) (ids : List ℕ) (last : ℕ)
    → MatchOption found (Unit {0}) (λ id. last < id) → All (λ (id : ℕ). id ≤ last) ids
    → All (λ (id : ℕ). id ≤ unwrap_or found last) (ids ++ once found)
below-with None ids last rising each =
    subst (λ (now : List ℕ). All (λ (id : ℕ). id ≤ last) now) (sym (append-nil ids)) each
below-with (Some id) ids last rising each =
    All-append (λ (other : ℕ). other ≤ id) ids (id ∷ [])
    (λ k d within. let low = each k d within in omega arith)
    (All-cons (λ (other : ℕ). other ≤ id) id [] (omega arith) (All-nil (λ (other : ℕ). other ≤ id)))

-- none is above the last
pub below-last : (told : List Step) → IsRising told
    → All (λ (id : ℕ). id ≤ last_of told) (admitted told)
below-last [] rising = All-nil (λ (id : ℕ). id ≤ 0)
below-last (step ∷ before) rising =
    below-with (admitted_by step) (admitted before) (last_of before) rising.0
    (below-last before rising.1)

among : (id : ℕ) (ids : List ℕ) → list_any (nat_eq id) ids ≡ true → Contains ids id
among id [] is = absurd cc
among id (first ∷ ids) is = by (nat_eq id first) refl is (λ some. among id ids some)
  where
    by : (here : Bool) → nat_eq id first ≡ here → (here || list_any (nat_eq id) ids) ≡ true
        → (list_any (nat_eq id) ids ≡ true → Contains ids id) → Contains (first ∷ ids) id
    by true same some behind = (0, omega arith, sym (eqb-true id first same))
    by false same some behind =
        let rest = behind some in
        (suc rest.0, omega (arith, rest.1), rest.2)

-- nor is one that was admitted
pub known-below : (told : List Step) → IsRising told → (id : ℕ) → is_admitted id told ≡ true
    → id ≤ last_of told
known-below told rising id known =
    All-contains (λ (other : ℕ). other ≤ last_of told) (admitted told) id (below-last told rising)
    (among id (admitted told) known)
