-- The Huffman code, checked by computation: the sum of its lengths, and that no code begins
-- another.
use Rattle.std.proofs.Common.{
  ◌≡◌,
  ℕ,
  zero,
  suc,
  ◌-◌,
  ◌/◌,
  ◌^◌,
  ◌<◌,
  ◌≤◌,
  List,
  [],
  ◌∷◌,
  refl,
  Bool,
  true,
  false,
  ◌&&◌,
  ◌||◌,
  not,
  nat_lt,
  nat_le,
  ◌==◌,
  subst,
  inl,
  inr,
  arith,
}
use Rattle.std.proofs.lemmas.Bool.{cases_lt, ltb-true, leb-true}
use Rattle.std.proofs.lemmas.Bool.Decides.{eqb_tells, nat_tests}
use Rattle.hpack_codec.specs.Huffman.{code_length, codes_of_length, first_code, code_number}

-- each number below n passes
abbrev pub below : ℕ → (ℕ → Bool) → Bool
below zero p = true
below (suc n) p = p n && below n p

-- the length and the number of each symbol's code, from symbol n - 1 down to 0
abbrev pub numbers_below : ℕ → List (ℕ × ℕ)
numbers_below zero = []
numbers_below (suc n) = (code_length n, code_number n) ∷ numbers_below n

-- neither code begins the other
abbrev pub are_apart : ℕ × ℕ → ℕ × ℕ → Bool
are_apart a b =
    not ((nat_le a.0 b.0 && (b.1 / 2 ^ (b.0 - a.0) == a.1))
    || (nat_le b.0 a.0 && (a.1 / 2 ^ (a.0 - b.0) == b.1)))

abbrev pub each_apart : ℕ × ℕ → List (ℕ × ℕ) → Bool
each_apart a [] = true
each_apart a (b ∷ bs) = are_apart a b && each_apart a bs

abbrev pub all_apart : List (ℕ × ℕ) → Bool
all_apart [] = true
all_apart (a ∷ as_) = each_apart a as_ && all_apart as_

pub codes_apart : all_apart (numbers_below 257) ≡ true
unfolding code_number code_length codes_of_length first_code
codes_apart = refl

-- Each code has 5 to 30 bits, its number fits, and no byte's is all ones.
abbrev pub is_code : ℕ → Bool
is_code n =
    nat_lt (code_number n) (2 ^ code_length n)
    && (nat_le 5 (code_length n)
    && (nat_le (code_length n) 30 && not (code_number n == 2 ^ code_length n - 1)))

pub codes_are : below 256 is_code ≡ true
unfolding code_number code_length codes_of_length first_code
codes_are = refl

pub and_true : (a b : Bool) → (a && b) ≡ true → (a ≡ true) × (b ≡ true)
and_true true true e = (refl, refl)
and_true true false e = (refl, e)
and_true false b e = (e, cc)

pub below_at : (n : ℕ) (p : ℕ → Bool) (i : ℕ) → below n p ≡ true → i < n → p i ≡ true
below_at zero p i e h = absurd (omega arith)
below_at (suc n) p i e h =
    let both = and_true (p n) (below n p) e in
    elim (cases_lt i n) [
      | inl less ↦ below_at n p i both.1 less
      | inr last ↦
          subst (λ (k : ℕ). p k ≡ true) (let same : n ≡ i = omega (arith, h, last) in same) both.0
    ]

not_equal : (a b : ℕ) → not (a == b) ≡ true → a ≡ b → ⊥
not_equal a b e same =
    elim (eqb_tells a b) [
      | inl equal ↦ let t : not true ≡ true = subst (λ (t : Bool). not t ≡ true) equal.0 e in cc
      | inr other ↦ other.1 same
    ]

-- what the test says of a code
pub record IsCode (n : ℕ) : Type 0 where
  pub fits : code_number n < 2 ^ code_length n
  pub low : 5 ≤ code_length n
  pub high : code_length n ≤ 30
  pub not_ones : code_number n ≡ 2 ^ code_length n - 1 → ⊥

told : (n : ℕ) → is_code n ≡ true → IsCode n
told n e =
    let a = and_true _ _ e in
    let b = and_true _ _ a.1 in
    let d = and_true _ _ b.1 in
    record {
      fits = ltb-true _ _ a.0;
      low = leb-true _ _ b.0;
      high = leb-true _ _ d.0;
      not_ones = λ same. not_equal _ _ d.1 same;
    }

pub code_facts : (n : ℕ) → n < 256 → IsCode n
code_facts n h = told n (below_at 256 is_code n codes_are h)

each_at : (n : ℕ) (a : ℕ × ℕ) (s : ℕ) → each_apart a (numbers_below n) ≡ true → s < n
    → are_apart a (code_length s, code_number s) ≡ true
each_at zero a s e h = absurd (omega arith)
each_at (suc n) a s e h =
    let both =
    and_true (are_apart a (code_length n, code_number n)) (each_apart a (numbers_below n)) e in
    elim (cases_lt s n) [
      | inl less ↦ each_at n a s both.1 less
      | inr last ↦
          subst (λ (k : ℕ). are_apart a (code_length k, code_number k) ≡ true)
          (let same : n ≡ s = omega (arith, h, last) in same) both.0
    ]

apart_at : (n s t : ℕ) → all_apart (numbers_below n) ≡ true → s < t → t < n
    → are_apart (code_length t, code_number t) (code_length s, code_number s) ≡ true
apart_at zero s t e h k = absurd (omega arith)
apart_at (suc n) s t e h k =
    let both =
    and_true (each_apart (code_length n, code_number n) (numbers_below n))
    (all_apart (numbers_below n)) e in
    elim (cases_lt t n) [
      | inl less ↦ apart_at n s t both.1 h less
      | inr last ↦
          let same : n ≡ t = omega (arith, k, last) in
          subst (λ (m : ℕ).
          are_apart (code_length m, code_number m) (code_length s, code_number s) ≡ true) same
          (each_at n (code_length n, code_number n) s both.0 (omega (arith, h, same)))
    ]

-- neither of two lists of bits begins the other
apart_means : (l c m d : ℕ) → are_apart (l, c) (m, d) ≡ true
    → (l ≤ m → d / 2 ^ (m - l) ≡ c → ⊥) × (m ≤ l → c / 2 ^ (l - m) ≡ d → ⊥)
apart_means l c m d e = (first, second)
  where
    first : l ≤ m → d / 2 ^ (m - l) ≡ c → ⊥
    first le same = grind (arith, nat_tests)

    second : m ≤ l → c / 2 ^ (l - m) ≡ d → ⊥
    second le same = grind (arith, nat_tests)

pub codes_of_two : (s t : ℕ) → s < t → t < 257
    → (code_length t ≤ code_length s
    → code_number s / 2 ^ (code_length s - code_length t) ≡ code_number t → ⊥)
    × (code_length s ≤ code_length t
    → code_number t / 2 ^ (code_length t - code_length s) ≡ code_number s → ⊥)
codes_of_two s t h k =
    apart_means (code_length t) (code_number t) (code_length s) (code_number s)
    (apart_at 257 s t codes_apart h k)
