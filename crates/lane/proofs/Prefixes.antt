-- Beginnings of lists.
use Rattle.std.proofs.Common.{◌≡◌, ℕ, Bool, List, ◌++◌, take, drop, ◌∙◌, ap, subst, append_assoc}
use Rattle.std.proofs.lemmas.List.{take-append-drop}
use mathlib.Core.List.{IsPrefix}
use Rattle.lane.specs.Lawful.{IsLawful}

module _ {T : Type 0} where
  pub IsPrefix-take : (front whole : List T) (n : ℕ) → front ≡ take n whole → IsPrefix front whole
  IsPrefix-take front whole n is_front =
      (drop n whole, ap (λ (xs : List T). xs ++ drop n whole) is_front ∙ take-append-drop n whole)

  -- what begins a beginning of a list begins the list
  pub IsPrefix-trans : (front middle whole : List T) → IsPrefix front middle → IsPrefix middle whole
      → IsPrefix front whole
  IsPrefix-trans front middle whole first second =
      let e : (front ++ first.0) ++ second.0 ≡ whole =
      ap (λ (xs : List T). xs ++ second.0) first.1 ∙ second.1 in
      (first.0 ++ second.0, rw append_assoc at e)

  pub lawful_at : (room room' : ℕ) (has_last : Bool) (put got got' : List T) → room ≡ room'
      → got ≡ got' → IsLawful room has_last put got → IsLawful room' has_last put got'
  lawful_at room room' has_last put got got' same_room same_got lawful =
      let P : ℕ → Type 0 = λ n. IsLawful n has_last put got' in
      let Q : List T → Type 0 = λ items. IsLawful room has_last put items in
      subst P same_room (subst Q same_got lawful)
