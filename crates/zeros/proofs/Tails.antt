-- Bytes and zeros after them, cut at a place.
use Rattle.std.proofs.Common.{
  ℕ,
  suc,
  zero,
  ◌≡◌,
  ◌-◌,
  ◌≤◌,
  min,
  List,
  [],
  ◌∷◌,
  ◌++◌,
  length,
  take,
  drop,
  replicate,
  refl,
  ap,
  arith,
  length-append,
}
use Rattle.std.proofs.lemmas.List.{
  take-replicate,
  drop-replicate,
  take_min,
  drop_min,
  length-replicate,
}

take-append : (xs ys : List ℕ) (n : ℕ) → take n (xs ++ ys) ≡ take n xs ++ take (n - length xs) ys
take-append [] ys zero = refl
take-append [] ys (suc n) =
    let e : suc n - 0 ≡ suc n = omega arith in
    rw e refl
take-append (x ∷ xs) ys zero =
    let e : 0 - suc (length xs) ≡ 0 = omega arith in
    rw e refl
take-append (x ∷ xs) ys (suc n) =
    let e : suc n - suc (length xs) ≡ n - length xs = omega arith in
    rw e (ap (λ (zs : List ℕ). x ∷ zs) (take-append xs ys n))

drop-append : (xs ys : List ℕ) (n : ℕ) → drop n (xs ++ ys) ≡ drop n xs ++ drop (n - length xs) ys
drop-append [] ys zero = refl
drop-append [] ys (suc n) =
    let e : suc n - 0 ≡ suc n = omega arith in
    rw e refl
drop-append (x ∷ xs) ys zero =
    let e : 0 - suc (length xs) ≡ 0 = omega arith in
    rw e refl
drop-append (x ∷ xs) ys (suc n) =
    let e : suc n - suc (length xs) ≡ n - length xs = omega arith in
    rw e (drop-append xs ys n)

-- how many of the zeros lie before the cut
pub cut_within : (xs ys : List ℕ) (z n : ℕ) → xs ++ replicate z 0 ≡ ys → n ≤ length ys
    → n - length xs ≤ z
cut_within xs ys z n e h =
    let zeros : length {A = ℕ} (replicate z 0) ≡ z = length-replicate {A = ℕ} z 0 in
    omega (arith, ap length e, length-append xs (replicate {A = ℕ} z 0), zeros)

pub cut_front : (xs ys : List ℕ) (z n m k : ℕ) → xs ++ replicate z 0 ≡ ys → n ≤ length ys
    → m ≡ min n (length xs) → k ≡ n - length xs → take m xs ++ replicate k 0 ≡ take n ys
cut_front xs ys z n m k e h em ek =
    rw (
      ← e,
      take-append xs (replicate z 0) n,
      em,
      ek,
      take_min n xs,
      take-replicate {X = ℕ} (n - length xs) z 0 (cut_within xs ys z n e h),
    ) refl

pub cut_rest : (xs ys : List ℕ) (z n m k : ℕ) → xs ++ replicate z 0 ≡ ys → m ≡ min n (length xs)
    → k ≡ n - length xs → drop m xs ++ replicate (z - k) 0 ≡ drop n ys
cut_rest xs ys z n m k e em ek =
    rw (
      ← e,
      drop-append xs (replicate z 0) n,
      em,
      ek,
      drop_min n xs,
      drop-replicate {X = ℕ} (n - length xs) z 0,
    ) refl
