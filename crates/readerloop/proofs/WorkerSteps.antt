-- Places in the rings of workers.
use Rattle.std.proofs.Common.{
  ◌≡◌,
  ℕ,
  zero,
  suc,
  ◌<◌,
  List,
  [],
  ◌∷◌,
  Option,
  Some,
  arith,
  get_or,
  length,
  refl,
  set,
  subst,
  sym,
}
use Rattle.std.specs.Prelude.{IsSomeAnd, slice_get}
use Rattle.std.proofs.lemmas.Option.{slice_get_read}
use Rattle.callparts.specs.declared.register.Naming.{Ghosts}
use Rattle.readerloop.specs.declared.worker_pool.WorkerHandle.{WorkerHandle}
use Rattle.readerloop.specs.WorkerHandles.{HasPlaces}

slice_get-set : {A : Type 0} (xs : List A) (i : ℕ) (x : A) → i < length xs
    → slice_get (set xs i x) i ≡ Some x
slice_get-set [] i x there = absurd (omega (arith, there))
slice_get-set (y ∷ ys) zero x there = refl
slice_get-set (y ∷ ys) (suc i) x there = slice_get-set ys i x (omega (arith, there))

module _ {J M : Type 0} {book : Ghosts J} where
  pub places-set : (workers : List (WorkerHandle J M book)) (number : ℕ)
      (worker : WorkerHandle J M book)
      → number < length workers → HasPlaces worker
      → IsSomeAnd (slice_get (set workers number worker) number) HasPlaces
  places-set workers number worker there has =
      subst (λ (found : Option (WorkerHandle J M book)). IsSomeAnd found HasPlaces)
      (sym (slice_get-set workers number worker there)) has

  pub places-found : (workers : List (WorkerHandle J M book)) (number : ℕ)
      (worker : WorkerHandle J M book)
      → number < length workers → worker ≡ get_or workers number worker
      → IsSomeAnd (slice_get workers number) HasPlaces → HasPlaces worker
  places-found workers number worker there is has =
      subst (λ (found : Option (WorkerHandle J M book)). IsSomeAnd found HasPlaces)
      (slice_get_read workers (length workers) number worker refl there is) has
