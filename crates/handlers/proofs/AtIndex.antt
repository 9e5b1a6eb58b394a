-- What holds of the element that is read at an index.
use Rattle.std.proofs.Common.{
  ◌≡◌,
  ℕ,
  ◌<◌,
  List,
  length,
  get_or,
  slice_get,
  Option,
  refl,
  sym,
  subst,
}
use Rattle.std.specs.Prelude.{IfSome}
use Rattle.std.proofs.lemmas.Option.{slice_get_read}

pub at_index : {X : Type 0} (P : X → Type 0) (xs : List X) (i : ℕ) (x : X) → i < length xs
    → x ≡ get_or xs i x → P x → IfSome (slice_get xs i) P
at_index {X} P xs i x below is holds =
    subst (λ (found : Option X). IfSome found P)
    (sym (slice_get_read xs (length xs) i x refl below is)) holds
