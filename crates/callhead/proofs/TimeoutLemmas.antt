-- Digits, and the one reading of a timeout.
use Rattle.std.proofs.Common.{
  ◌≡◌,
  ℕ,
  zero,
  suc,
  ◌<◌,
  ◌≤◌,
  List,
  [],
  ◌∷◌,
  ◌++◌,
  length,
  get_or,
  take,
  refl,
  arith,
}
use Rattle.std.specs.Char.{digit_value}
use Rattle.std.specs.Str.Parse.{AllDigits, digits_value}
use Rattle.std.proofs.lemmas.Str.Parse.{numerals_by_value, tells_digits, digits_value_short}
use Rattle.std.proofs.lemmas.List.{length-take}

pub digit_of : (digits : List ℕ) (i : ℕ) → AllDigits 10 digits → i < length digits
    → digit_value (get_or digits i 0) < 10
digit_of [] i all within = absurd (omega arith)
digit_of (digit ∷ digits) zero all within = all.0
digit_of (digit ∷ digits) (suc i) all within = digit_of digits i all.1 (omega arith)

pub seven_digits : (digits : List ℕ) (i : ℕ) → AllDigits 10 (take i digits) → i < length digits
    → length digits ≤ 8 → digits_value 10 (take i digits) < 10000000
seven_digits digits i all within short =
    digits_value_short (numerals_by_value (AllDigits 10) tells_digits) (take i digits) 7 all
    (omega (arith, length-take i digits))

pub eight_digits : (digits : List ℕ) → AllDigits 10 digits → length digits ≤ 8
    → digits_value 10 digits < 100000000
eight_digits digits all short =
    digits_value_short (numerals_by_value (AllDigits 10) tells_digits) digits 8 all short

-- a list has one last element, and one front
pub last_is : (front : List ℕ) (last : ℕ) (front' : List ℕ) (last' : ℕ)
    → front ++ last ∷ [] ≡ front' ++ last' ∷ [] → (front ≡ front') × (last ≡ last')
last_is [] last [] last' e = (refl, cc)
last_is [] last (x ∷ []) last' e = absurd (cc)
last_is [] last (x ∷ y ∷ front') last' e = absurd (cc)
last_is (x ∷ []) last [] last' e = absurd (cc)
last_is (x ∷ y ∷ front) last [] last' e = absurd (cc)
last_is (x ∷ front) last (x' ∷ front') last' e =
    let tails : front ++ last ∷ [] ≡ front' ++ last' ∷ [] = cc in
    let head : x ≡ x' = cc in
    let rest = last_is front last front' last' tails in
    (cc, rest.1)
