-- On the writer of integers: what is written so far, and what is left of the number.
use Rattle.std.proofs.Common.{
  ◌≡◌,
  ℕ,
  suc,
  ◌+◌,
  ◌-◌,
  ◌*◌,
  ◌/◌,
  ◌%◌,
  ◌^◌,
  ◌<◌,
  ◌≤◌,
  List,
  [],
  ◌∷◌,
  ◌++◌,
  length,
  refl,
  sym,
  subst,
  ◌∙◌,
  ap,
  inl,
  inr,
  arith,
  append_assoc,
  add-one,
  lit<,
}
use Rattle.std.proofs.lemmas.List.{length_push}
use Rattle.std.proofs.lemmas.Bool.{cases_lt}
use Rattle.std.proofs.lemmas.Nat.{one_shl}
use Rattle.std.proofs.Math.Nat.{pow-suc, mul-le-mul_left, pow-le-pow_right, div-add-mod}
use Rattle.hpack_codec.specs.Integer.{base_128, IsUnfinished, IsInteger}
use Rattle.hpack_codec.specs.Reading.{Appends}
use Rattle.hpack_codec.proofs.Integers.{base_128-push, IsUnfinished-push}

-- After the first byte stand bytes with the top bit: with these and the rest the value is whole.
pub record IsWriting (old new : List ℕ) (first value rest : ℕ) : Type 0 where
  pub front : List ℕ
  pub written : new ≡ old ++ first ∷ front
  pub unfinished : IsUnfinished front
  pub sum : value ≡ base_128 front + 128 ^ length front * rest
  pub fits : 128 ^ length front * rest < 2 ^ 32
  pub short : length front < 5

-- `1 << bits` in 32 bits
pub span_is_32 : (bits : ℕ) → bits < 8 → 1 * 2 ^ bits % 2 ^ 32 ≡ 2 ^ bits
span_is_32 bits h = one_shl bits 32 (omega arith)

pub begins : (old : List ℕ) (first value : ℕ) → value < 2 ^ 32
    → IsWriting old (old ++ first ∷ []) first value value
unfolding base_128 IsUnfinished
begins old first value h = record {
  front = [];
  written = refl;
  unfinished = tt;
  sum = omega arith;
  fits = omega arith;
  short = lit< tt;
}

short_power : (n : ℕ) → 128 ^ n < 2 ^ 32 → n < 5
short_power n h = elim (cases_lt n 5) [
  | inl below ↦ below
  | inr (five) ↦ absurd (omega (arith, h, pow-le-pow_right {n = 128} (lit< tt) five))
]

split_rest : (b p rest : ℕ) → b + p * rest ≡ b + p * (rest % 128) + p * 128 * (rest / 128)
split_rest b p rest =
    ap (λ n. b + p * n) (sym (div-add-mod rest 128)) ∙ spread b p (rest / 128) (rest % 128)
  where
    spread : (b p high low : ℕ) → b + p * (128 * high + low) ≡ b + p * low + p * 128 * high
    spread b p high low = omega arith

low_bits : (n : ℕ) → (n % 128 + 128) % 128 ≡ n % 128
low_bits n = omega arith

rest_whole : (rest : ℕ) → rest < 128 → rest % 128 ≡ rest
rest_whole rest h = omega arith

-- one byte more
pub goes_on : (old new : List ℕ) (first value rest : ℕ)
    → IsWriting old new first value rest → 128 ≤ rest
    → IsWriting old (new ++ (rest % 128 + 128) ∷ []) first value (rest / 128)
goes_on old new first value rest w more =
    let byte : ℕ = rest % 128 + 128 in
    let power_is : 128 ^ length (w.front ++ byte ∷ []) ≡ 128 ^ length w.front * 128 =
    ap (λ n. 128 ^ n) (length_push w.front byte ∙ add-one (length w.front))
    ∙ pow-suc 128 (length w.front) in
    let fits_now : 128 ^ length w.front * 128 * (rest / 128) < 2 ^ 32 =
    omega (arith, split_rest 0 (128 ^ length w.front) rest, w.fits) in
    let power_fits : 128 ^ suc (length w.front) < 2 ^ 32 =
    omega
    (arith, pow-suc 128 (length w.front), mul-le-mul_left (128 ^ length w.front) more, w.fits) in
    record {
      front = w.front ++ byte ∷ [];
      written =
          ap (λ bytes. bytes ++ byte ∷ []) w.written
          ∙ append_assoc old (first ∷ w.front) (byte ∷ []);
      unfinished = IsUnfinished-push w.front byte w.unfinished (omega arith);
      sum = w.sum ∙ split_rest (base_128 w.front) (128 ^ length w.front) rest
          ∙ ap (λ n.
          base_128 w.front + 128 ^ length w.front * n + 128 ^ length w.front * 128 * (rest / 128))
          (sym (low_bits rest))
          ∙ sym (ap (λ n. n + 128 ^ length (w.front ++ byte ∷ []) * (rest / 128))
          (base_128-push w.front byte)
          ∙ ap (λ n. base_128 w.front + 128 ^ length w.front * (byte % 128) + n * (rest / 128))
          power_is);
      fits = subst (λ (n : ℕ). n * (rest / 128) < 2 ^ 32) (sym power_is) fits_now;
      short =
          subst (λ (n : ℕ). n < 5) (sym (length_push w.front byte ∙ add-one (length w.front)))
          (short_power (suc (length w.front)) power_fits);
    }

-- the last byte
pub ends : (old new : List ℕ) (bits most flags number rest : ℕ) → most ≡ 2 ^ bits - 1
    → IsWriting old new (flags + most) (number - most) rest
    → rest < 128 → number < 2 ^ 32 → most ≤ number
    → Appends old (new ++ rest ∷ []) (λ text. IsInteger bits flags text number)
ends old new bits most flags number rest most_is w finished below large = (
  (flags + most) ∷ w.front ++ rest ∷ [],
  ap (λ bytes. bytes ++ rest ∷ []) w.written
      ∙ append_assoc old ((flags + most) ∷ w.front) (rest ∷ []),
  inr (record {
    front = w.front;
    last = rest;
    spelling = ap (λ n. (flags + n) ∷ w.front ++ rest ∷ []) most_is;
    unfinished = w.unfinished;
    finished = finished;
    at_most_six = w.short;
    sum = omega (
      arith,
      most_is,
      w.sum,
      base_128-push w.front rest,
      ap (λ n. 128 ^ length w.front * n) (rest_whole rest finished),
    );
    below = below;
  }),
)

pub writes_short : (old : List ℕ) (bits flags number : ℕ) → number + 1 < 2 ^ bits
    → Appends old (old ++ (flags + number) ∷ []) (λ text. IsInteger bits flags text number)
writes_short old bits flags number small =
    ((flags + number) ∷ [], refl, inl (record { small = small; spelling = refl }))
