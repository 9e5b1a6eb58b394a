-- What is put, and the backlog behind it.
use Rattle.std.proofs.Common.{
  ◌≡◌,
  ◌∙◌,
  ◌⊎◌,
  inl,
  inr,
  Bool,
  true,
  false,
  true≢false,
  List,
  [],
  ◌∷◌,
  ◌++◌,
  Option,
  Some,
  Result,
  Ok,
  Err,
  OnOk,
  ap,
  append-nil,
  arith,
  refl,
  sym,
}
use Rattle.std.specs.Prelude.{IsOk, length, not}

pub un-not : (b : Bool) → not b ≡ false → b ≡ true
un-not true is = refl
un-not false is = absurd (true≢false is)

pub placed-so : {T E P : Type 0} (result : Result T E) → IsOk result → OnOk result P → P
placed-so (Ok done) ok on = on
placed-so (Err fault) ok on = absurd (true≢false (sym ok))

module _ {T : Type 0} where
  pub nil-of : (xs : List T) → length xs ≡ 0 → xs ≡ []
  nil-of [] none = refl
  nil-of (x ∷ xs) none = absurd (omega (arith, none))

  pub both : {one other back rest : List T} → one ≡ other → back ≡ rest
      → one ++ back ≡ other ++ rest
  both {other = other} {back = back} is same =
      ap (λ (xs : List T). xs ++ back) is ∙ ap (λ (xs : List T). other ++ xs) same

  -- an item is put where none waits behind
  pub alone : (was : List T) (one : T) {all back rest : List T} → all ≡ was ++ one ∷ []
      → back ≡ rest → rest ≡ [] → all ++ back ≡ (was ++ rest) ++ one ∷ []
  alone was one {all = all} placed same none =
      ap (λ (xs : List T). all ++ xs) (same ∙ none)
      ∙ (append-nil all
      ∙ (placed
      ∙ ap (λ (xs : List T). xs ++ one ∷ [])
      (sym (ap (λ (xs : List T). was ++ xs) none ∙ append-nil was))))

  -- an order is put, or dropped, behind those that stood as before
  pub puts-behind : (mid old new : List T) (order other : T) (had was has : Bool)
      (kept left unput : Option T)
      → mid ≡ old → had ≡ was → kept ≡ left → order ≡ other
      → ((new ≡ mid ++ order ∷ []) × (had ≡ false) × (has ≡ false) × (unput ≡ kept))
      ⊎ ((new ≡ mid) × (has ≡ true) × ((unput ≡ kept) ⊎ (unput ≡ Some order)))
      → ((new ≡ old ++ other ∷ []) × (was ≡ false) × (has ≡ false) × (unput ≡ left))
      ⊎ ((new ≡ old) × (has ≡ true) × ((unput ≡ left) ⊎ (unput ≡ Some other)))
  puts-behind mid old new order other had was has kept left unput put same stood is
      (inl (placed, undropped, drops, keeps)) = inl (
        placed ∙ (ap (λ (os : List T). os ++ order ∷ []) put ∙ ap (λ (o : T). old ++ o ∷ []) is),
        sym same ∙ undropped,
        drops,
        keeps ∙ stood,
      )
  puts-behind mid old new order other had was has kept left unput put same stood is
      (inr (placed, drops, inl keeps)) = inr (placed ∙ put, drops, inl (keeps ∙ stood))
  puts-behind mid old new order other had was has kept left unput put same stood is
      (inr (placed, drops, inr keeps)) = inr (placed ∙ put, drops, inr (keeps ∙ ap Some is))
