-- Beginnings of one list.
use Rattle.std.proofs.Common.{
  ◌≡◌,
  ℕ,
  zero,
  suc,
  ◌≤◌,
  ◌<◌,
  List,
  [],
  ◌∷◌,
  ◌++◌,
  length,
  Some,
  slice_get,
  refl,
  arith,
}
use mathlib.Core.List.{IsPrefix}

-- a beginning as long as the whole is the whole
pub prefix_whole : {A : Type 0} (xs ys : List A) → IsPrefix xs ys → length ys ≤ length xs → xs ≡ ys
prefix_whole [] [] p le = refl
prefix_whole [] (y ∷ ys) p le = absurd (omega arith)
prefix_whole (x ∷ xs) [] p le = absurd (cc (p.1))
prefix_whole (x ∷ xs) (y ∷ ys) p le =
    let rest = prefix_whole xs ys (p.0, cc (p.1)) (omega arith) in cc (p.1, rest)

-- what stands at a number of a beginning stands there in the whole
pub entry_longer : {A : Type 0} (xs ys : List A) (n : ℕ) → IsPrefix xs ys → n < length xs
    → slice_get xs n ≡ slice_get ys n
entry_longer [] ys n p within = absurd (omega (arith, within))
entry_longer (x ∷ xs) [] n p within = absurd (cc (p.1))
entry_longer (x ∷ xs) (y ∷ ys) zero p within = cc (p.1)
entry_longer (x ∷ xs) (y ∷ ys) (suc n) p within =
    entry_longer xs ys n (p.0, cc (p.1)) (omega (arith, within))

-- two beginnings have the same at each number that both have
pub same_entry : {A : Type 0} (xs ys zs : List A) (m n : ℕ) → IsPrefix xs zs → IsPrefix ys zs
    → m < length xs → n < length ys → m ≡ n → slice_get xs m ≡ slice_get ys n
same_entry xs ys zs m n p q in_xs in_ys is =
    cc (entry_longer xs zs m p in_xs, entry_longer ys zs n q in_ys, is)

-- the number of an entry that is added
pub last_entry : {A : Type 0} (xs : List A) (x : A) → slice_get (xs ++ x ∷ []) (length xs) ≡ Some x
last_entry [] x = refl
last_entry (y ∷ xs) x = last_entry xs x

-- a beginning is no longer than the whole
pub prefix_length : {A : Type 0} (xs ys : List A) → IsPrefix xs ys → length xs ≤ length ys
prefix_length [] ys p = omega arith
prefix_length (x ∷ xs) [] p = absurd (cc (p.1))
prefix_length (x ∷ xs) (y ∷ ys) p = omega (arith, prefix_length xs ys (p.0, cc (p.1)))
