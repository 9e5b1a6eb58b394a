-- On numbers as lists of bits.
use Rattle.std.proofs.Common.{
  ◌≡◌,
  ℕ,
  zero,
  suc,
  ◌+◌,
  ◌-◌,
  ◌*◌,
  ◌/◌,
  ◌%◌,
  ◌^◌,
  ◌<◌,
  ◌≤◌,
  List,
  [],
  ◌∷◌,
  ◌++◌,
  length,
  refl,
  sym,
  subst,
  ◌∙◌,
  ap,
  arith,
  append_assoc,
}
use Rattle.std.proofs.lemmas.Nat.{
  pow_pos,
  shr-shr,
  shr_high,
  mod-pow-add,
  shr_split,
  mod-mul-add,
  shr_below,
}
use Rattle.std.proofs.Math.Nat.{add-mul-div_right, pow-suc}
use Rattle.hpack_codec.specs.Huffman.{bits}

pub length-bits : (n a : ℕ) → length (bits n a) ≡ n
unfolding bits
length-bits zero a = refl
length-bits (suc n) a = ap (λ m. suc m) (length-bits n a)

-- the bits of the high part and of the low part
pub bits-add : (m n a : ℕ) → bits (m + n) a ≡ bits m (a / 2 ^ n) ++ bits n a
unfolding bits
bits-add zero n a = ap (λ k. bits k a) (let e : 0 + n ≡ n = omega arith in e)
bits-add (suc m) n a =
    ap (λ k. bits k a) (let e : suc m + n ≡ suc (m + n) = omega arith in e)
    ∙ ap (λ bit. bit ∷ bits (m + n) a) (ap (λ q. q % 2)
    (ap (λ k. a / 2 ^ k) (let e : m + n ≡ n + m = omega arith in e) ∙ sym (shr-shr a n m)))
    ∙ ap (λ tail. a / 2 ^ n / 2 ^ m % 2 ∷ tail) (bits-add m n a)

even_more : (q low p : ℕ) → 0 < p → (q * 2 * p + low) / p % 2 ≡ low / p % 2
even_more q low p h =
    ap (λ n. n % 2) (ap (λ n. n / p) (let e : q * 2 * p + low ≡ low + q * 2 * p = omega arith in e)
    ∙ add-mul-div_right low (q * 2) h)
    ∙ (let e : (low / p + q * 2) % 2 ≡ low / p % 2 = omega arith in e)

-- what is above the n low bits doesn't count
pub bits_low : (n q low : ℕ) → bits n (q * 2 ^ n + low) ≡ bits n low
unfolding bits
bits_low zero q low = refl
bits_low (suc n) q low =
    let again : q * 2 ^ suc n + low ≡ q * 2 * 2 ^ n + low =
    ap (λ k. q * k + low) (pow-suc 2 n) ∙ ap (λ k. k + low) (twice q (2 ^ n)) in
    ap (bits (suc n)) again
    ∙ ap (λ bit. bit ∷ bits n (q * 2 * 2 ^ n + low)) (even_more q low (2 ^ n) (pow_pos n))
    ∙ ap (λ tail. low / 2 ^ n % 2 ∷ tail) (bits_low n (q * 2) low)
  where
    twice : (q p : ℕ) → q * (p * 2) ≡ q * 2 * p
    twice q p = omega arith

pub bits-mod : (n a : ℕ) → bits n (a % 2 ^ n) ≡ bits n a
bits-mod n a = sym (ap (bits n) (sym (shr_split a n)) ∙ bits_low n (a / 2 ^ n) (a % 2 ^ n))

-- one byte more
pub bits_byte : (count register byte : ℕ) → byte < 256
    → bits (count + 8) (register * 256 + byte) ≡ bits count register ++ bits 8 byte
bits_byte count register byte h =
    bits-add count 8 (register * 256 + byte)
    ∙ ap (λ n. bits count n ++ bits 8 (register * 256 + byte)) (shr_high register 8 byte h)
    ∙ ap (λ tail. bits count register ++ tail) (bits_low 8 register byte)

-- the number that bits spell
abbrev pub number_of : List ℕ → ℕ
number_of [] = 0
number_of (bit ∷ rest) = bit * 2 ^ length rest + number_of rest

pub number_of-bits : (n a : ℕ) → number_of (bits n a) ≡ a % 2 ^ n
unfolding bits
number_of-bits zero a = omega arith
number_of-bits (suc n) a =
    ap (λ len. a / 2 ^ n % 2 * 2 ^ len + number_of (bits n a)) (length-bits n a)
    ∙ ap (λ low. a / 2 ^ n % 2 * 2 ^ n + low) (number_of-bits n a)
    ∙ sym (ap (λ k. a % 2 ^ k) (let e : suc n ≡ 1 + n = omega arith in e) ∙ mod-pow-add a 1 n)

pub small_mod : (a m : ℕ) → a < m → a % m ≡ a
small_mod a m h = ap (λ n. n % m) (let e : a ≡ 0 * m + a = omega arith in e) ∙ low a m h
  where
    low : (a m : ℕ) → a < m → (0 * m + a) % m ≡ a
    low a m h = mod-mul-add 0 m a h

-- numbers of n bits with the same bits are one
pub bits_one : (n a b : ℕ) → a < 2 ^ n → b < 2 ^ n → bits n a ≡ bits n b → a ≡ b
bits_one n a b h k e =
    sym (small_mod a (2 ^ n) h) ∙ sym (number_of-bits n a) ∙ ap number_of e ∙ number_of-bits n b
    ∙ small_mod b (2 ^ n) k

-- fronts of one length of one list are one
pub fronts_one : (xs ys rest more : List ℕ) → length xs ≡ length ys → xs ++ rest ≡ ys ++ more
    → (xs ≡ ys) × (rest ≡ more)
fronts_one [] [] rest more l e = (refl, e)
fronts_one [] (y ∷ ys) rest more l e = absurd (omega (arith, l))
fronts_one (x ∷ xs) [] rest more l e = absurd (omega (arith, l))
fronts_one (x ∷ xs) (y ∷ ys) rest more l e =
    let tails : xs ++ rest ≡ ys ++ more = cc in
    let heads : x ≡ y = cc in
    let same = fronts_one xs ys rest more (omega (arith, l)) tails in
    (cc (heads, same.0), same.1)

-- The m first of the n bits of a number are those of its high part.
pub high_bits : (m n a b : ℕ) (rest more : List ℕ) → m ≤ n → a < 2 ^ n → b < 2 ^ m
    → bits n a ++ rest ≡ bits m b ++ more → a / 2 ^ (n - m) ≡ b
high_bits m n a b rest more le small fits e =
    let n_is : m + (n - m) ≡ n = omega arith in
    let parted : bits m (a / 2 ^ (n - m)) ++ (bits (n - m) a ++ rest) ≡ bits m b ++ more =
    sym (append_assoc (bits m (a / 2 ^ (n - m))) (bits (n - m) a) rest)
    ∙ ap (λ front. front ++ rest) (sym (bits-add m (n - m) a))
    ∙ ap (λ k. bits k a ++ rest) n_is ∙ e in
    bits_one m (a / 2 ^ (n - m)) b
    (shr_below a m (n - m) (subst (λ (k : ℕ). a < 2 ^ k) (sym n_is) small)) fits
    (fronts_one _ _ _ _ (length-bits m _ ∙ sym (length-bits m b)) parted).0
