-- Words and cases one after another.
use Rattle.std.proofs.Common.{
  ◌<◌,
  arith,
  sym,
  subst,
  refl,
  Bool,
  true,
  false,
  List,
  ℕ,
  [],
  ◌∷◌,
  length,
  get_or,
  MatchBool,
}
use Rattle.std.specs.Prelude.{Any, IsTrue}
use Rattle.std.specs.List.{AllWithin, HoldsAt}
use Rattle.std.proofs.lemmas.List.Elements.{Contains-get_or}

-- `any` answers whether one of them is one
some_any : {A : Type 0} (P : A → Type 0) (xs : List A) (k : ℕ) (d : A) → k < length xs
    → HoldsAt P xs k → Any P xs
some_any P xs k d below holds =
    let inside = Contains-get_or xs k d below in
    (inside.0, get_or xs k d, inside.1, inside.2, holds d)

any_of : {A : Type 0} (P : A → Type 0) (xs : List A)
    → (k : ℕ) × (k < length xs) × HoldsAt P xs k → Any P xs
any_of P [] at = absurd (omega (arith, at.1))
any_of P (x ∷ xs) at = some_any P (x ∷ xs) at.0 x at.1 at.2

pub any_decides : {A : Type 0} (P : A → Type 0) (xs : List A) (r : Bool)
    → MatchBool r ((k : ℕ) × (k < length xs) × HoldsAt P xs k)
    (AllWithin (λ x. P x → ⊥) xs 0 (length xs))
    → (IsTrue r → Any P xs) × (Any P xs → IsTrue r)
any_decides P xs true found = (λ _. any_of P xs found, λ _. refl)
any_decides P xs false none =
    (λ h. cc, λ any. absurd (none any.0 any.1 (omega arith) any.2 (subst P (sym any.3) any.4)))
