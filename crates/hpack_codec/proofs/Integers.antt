-- On integers: their bytes one by one, and that a number has at most one reading at the front of a
-- list.
use Rattle.std.proofs.Common.{
  ◌≡◌,
  ℕ,
  zero,
  suc,
  ◌+◌,
  ◌-◌,
  ◌*◌,
  ◌/◌,
  ◌%◌,
  ◌^◌,
  ◌<◌,
  ◌≤◌,
  List,
  [],
  ◌∷◌,
  ◌++◌,
  length,
  take,
  drop,
  get_or,
  refl,
  sym,
  subst,
  lit≤,
  ◌∙◌,
  ap,
  inl,
  inr,
  arith,
  add-one,
  append_assoc,
}
use Rattle.std.proofs.lemmas.List.{
  take_more,
  length-take-le,
  take-append-drop,
  drop_more,
  take_rest,
  take_all,
}
use Rattle.std.proofs.Math.Nat.{pow-suc, mul-le-mul_right}
use Rattle.std.proofs.lemmas.Nat.{pow_pos, mod_below, shr_split, one_shl}
use Rattle.hpack_codec.specs.declared.fault.HpackFault.TheVariants.{
  Integer,
  Index,
  Huffman,
  SizeUpdate,
  Truncated,
  OutOfMemory,
  Dead,
  TooLarge,
}
use Rattle.hpack_codec.specs.declared.fault.HpackFault.{HpackFault}
use Rattle.hpack_codec.specs.Faults.{IsIntegerFault}
use Rattle.hpack_codec.specs.Integer.{base_128, IsUnfinished, IsCut, IsEndless, IsOver}
use Rattle.hpack_codec.specs.Reading.{TakesMore, IsMoreFault, TakesInteger, flags_of}

pub IsUnfinished-push : (xs : List ℕ) (byte : ℕ) → IsUnfinished xs → 128 ≤ byte
    → IsUnfinished (xs ++ byte ∷ [])
unfolding IsUnfinished
IsUnfinished-push [] byte u h = (h, tt)
IsUnfinished-push (x ∷ xs) byte u h = (u.0, IsUnfinished-push xs byte u.1 h)

regrouped : (x n p b : ℕ) → x + 128 * (n + p * b) ≡ x + 128 * n + p * 128 * b
regrouped x n p b = omega arith

pub base_128-push : (xs : List ℕ) (byte : ℕ)
    → base_128 (xs ++ byte ∷ []) ≡ base_128 xs + 128 ^ length xs * (byte % 128)
unfolding base_128
base_128-push [] byte = omega arith
base_128-push (x ∷ xs) byte =
    ap (λ n. x % 128 + 128 * n) (base_128-push xs byte)
    ∙ regrouped (x % 128) (base_128 xs) (128 ^ length xs) (byte % 128)
    ∙ ap (λ n. x % 128 + 128 * base_128 xs + n * (byte % 128)) (sym (pow-suc 128 (length xs)))

pub unfinished_more : (xs : List ℕ) (i : ℕ) → i < length xs → IsUnfinished (take i xs)
    → 128 ≤ get_or xs i 0 → IsUnfinished (take (i + 1) xs)
unfinished_more xs i l u h =
    rw (take_more xs i 0 l) (IsUnfinished-push (take i xs) (get_or xs i 0) u h)

pub base_128_more : (xs : List ℕ) (i : ℕ) → i < length xs
    → base_128 (take (i + 1) xs) ≡ base_128 (take i xs) + 128 ^ i * (get_or xs i 0 % 128)
base_128_more xs i l =
    rw (take_more xs i 0 l, base_128-push, length-take-le i xs (omega arith)) refl

pub small_power : (i : ℕ) → i < 5 → 128 ^ i ≤ 2 ^ 28
small_power zero h = lit≤ tt
small_power (suc zero) h = lit≤ tt
small_power (suc (suc zero)) h = lit≤ tt
small_power (suc (suc (suc zero))) h = lit≤ tt
small_power (suc (suc (suc (suc zero)))) h = lit≤ tt
small_power (suc (suc (suc (suc (suc i))))) h = absurd (omega arith)

-- the first byte without the top bit parts two lists at one place
pub one_end : (xs ys : List ℕ) (x y : ℕ) (rest more : List ℕ) → IsUnfinished xs → x < 128
    → IsUnfinished ys → y < 128 → xs ++ x ∷ rest ≡ ys ++ y ∷ more
    → (xs ≡ ys) × (x ≡ y) × (rest ≡ more)
unfolding IsUnfinished
one_end [] [] x y rest more u l v m e = (refl, cc, cc)
one_end [] (b ∷ ys) x y rest more u l v m e = let same : x ≡ b = cc in absurd (omega (arith, v.0))
one_end (a ∷ xs) [] x y rest more u l v m e = let same : a ≡ y = cc in absurd (omega (arith, u.0))
one_end (a ∷ xs) (b ∷ ys) x y rest more u l v m e =
    let tails : xs ++ x ∷ rest ≡ ys ++ y ∷ more = cc in
    let same = one_end xs ys x y rest more u.1 l v.1 m tails in
    let heads : a ≡ b = cc in
    (cc (heads, same.0), same.1, same.2)

-- and bytes with the top bit end before it
pub end_behind : (xs ys : List ℕ) (y : ℕ) (rest more : List ℕ) → IsUnfinished xs → y < 128
    → xs ++ rest ≡ ys ++ y ∷ more → length xs ≤ length ys
unfolding IsUnfinished
end_behind [] ys y rest more u m e = omega arith
end_behind (a ∷ xs) [] y rest more u m e = let same : a ≡ y = cc in absurd (omega (arith, u.0))
end_behind (a ∷ xs) (b ∷ ys) y rest more u m e =
    let tails : xs ++ rest ≡ ys ++ y ∷ more = cc in
    omega (arith, end_behind xs ys y rest more u.1 m tails)

-- a list, its front, its element at a place, and what is behind that
pub parts_at : (xs : List ℕ) (i : ℕ) → i < length xs
    → xs ≡ take i xs ++ get_or xs i 0 ∷ take (length xs - (i + 1)) (drop (i + 1) xs)
parts_at xs i l =
    rw (take_rest xs (i + 1))
    (sym (take-append-drop i xs) ∙ ap (λ tail. take i xs ++ tail) (drop_more xs i 0 l))

pub takes_more : (bytes : List ℕ) (i number weight low : ℕ) → i < length bytes → i < 5
    → IsUnfinished (take i bytes)
    → number ≡ base_128 (take i bytes) → weight ≡ 128 ^ i → get_or bytes i 0 < 128
    → low ≡ get_or bytes i 0 % 128
    → TakesMore bytes (number + low * weight) (take (length bytes - (i + 1)) (drop (i + 1) bytes))
takes_more bytes i number weight low l five u n w finished low_is = record {
  front = take i bytes;
  last = get_or bytes i 0;
  spelling = parts_at bytes i l;
  unfinished = u;
  finished = finished;
  at_most_five = rw (length-take-le i bytes (omega arith)) five;
  sum = rw (base_128-push, length-take-le i bytes (omega arith), n, w, low_is) (grind arith);
}

pub no_more : (bytes : List ℕ) (i : ℕ) → i ≤ length bytes → length bytes ≤ i → i < 5
    → IsUnfinished (take i bytes) → IsUnfinished bytes × (length bytes < 5)
no_more bytes i l m five u = (rw (take_all i bytes m) at u, omega arith)

pub five_more : (bytes : List ℕ) (i : ℕ) → i ≤ length bytes → i ≡ 5 → IsUnfinished (take i bytes)
    → (front rest : List ℕ) × (bytes ≡ front ++ rest) × IsUnfinished front × (length front ≡ 5)
five_more bytes i l five u =
    (take i bytes, drop i bytes, sym (take-append-drop i bytes), u, length-take-le i bytes l ∙ five)

bounded : (number weight low : ℕ) → number < weight → low < 128
    → number + low * weight < weight * 128
bounded number weight low h k =
    omega (arith, mul-le-mul_right weight (let le : low ≤ 127 = omega arith in le))

pub next_more : (bytes : List ℕ) (i number weight low : ℕ) → i < length bytes
    → number ≡ base_128 (take i bytes)
    → weight ≡ 128 ^ i → number < weight → low ≡ get_or bytes i 0 % 128
    → (number + low * weight ≡ base_128 (take (i + 1) bytes))
    × (number + low * weight < weight * 128) × (weight * 128 ≡ 128 ^ (i + 1))
next_more bytes i number weight low l n w small low_is = (
  rw (base_128_more bytes i l, ← n, ← w, ← low_is) (omega arith),
  bounded number weight low small (omega (arith, low_is)),
  rw (add-one, pow-suc 128 i, w) refl,
)

short_spelling : (first bits : ℕ) → first ≡ first / 2 ^ bits * 2 ^ bits + first % 2 ^ bits
short_spelling first bits = sym (shr_split first bits)

pub takes_short : (bits first number : ℕ) (rest : List ℕ) → number ≡ first % 2 ^ bits
    → number + 1 < 2 ^ bits → TakesInteger bits (first ∷ rest) number rest
unfolding flags_of
takes_short bits first number rest is small = (
  first ∷ [],
  refl,
  inl (record {
    small = small;
    spelling =
        ap (λ n. n ∷ []) (short_spelling first bits
        ∙ ap (λ n. first / 2 ^ bits * 2 ^ bits + n) (sym is));
  }),
)

pub takes_long : (bits first high number : ℕ) (rest behind : List ℕ)
    → first % 2 ^ bits ≡ 2 ^ bits - 1 → TakesMore rest high behind
    → number ≡ 2 ^ bits - 1 + high → number < 2 ^ 32
    → TakesInteger bits (first ∷ rest) number behind
unfolding flags_of
takes_long bits first high number rest behind greatest more is below = (
  first ∷ more.front ++ more.last ∷ [],
  ap (λ tail. first ∷ tail) (more.spelling ∙ sym (append_assoc more.front (more.last ∷ []) behind)),
  inr (record {
    front = more.front;
    last = more.last;
    spelling =
        ap (λ n. n ∷ more.front ++ more.last ∷ [])
        (short_spelling first bits ∙ ap (λ n. first / 2 ^ bits * 2 ^ bits + n) greatest);
    unfinished = more.unfinished;
    finished = more.finished;
    at_most_six = more.at_most_five;
    sum = is ∙ ap (λ n. 2 ^ bits - 1 + n) more.sum;
    below = below;
  }),
)

pub greatest_prefix : (bits first : ℕ) → 2 ^ bits - 1 ≤ first % 2 ^ bits
    → first % 2 ^ bits ≡ 2 ^ bits - 1
greatest_prefix bits first h =
    omega (arith, mod_below first (2 ^ bits) (pow_pos bits), pow_pos bits)

pub over : (bits first high : ℕ) (rest behind : List ℕ) → first % 2 ^ bits ≡ 2 ^ bits - 1
    → TakesMore rest high behind
    → 2 ^ 32 ≤ 2 ^ bits - 1 + high → IsOver bits (first ∷ rest)
over bits first high rest behind greatest more large = record {
  front = more.front;
  last = more.last;
  more = behind;
  begins = (first, ap (λ tail. first ∷ tail) more.spelling, greatest);
  unfinished = more.unfinished;
  finished = more.finished;
  over = rw (more.sum) at large;
}

pub endless : (bits first : ℕ) (rest : List ℕ) → first % 2 ^ bits ≡ 2 ^ bits - 1
    → IsMoreFault Integer rest → IsEndless bits (first ∷ rest)
endless bits first rest greatest fault = record {
  front = fault.0;
  more = fault.1;
  begins = (first, ap (λ tail. first ∷ tail) fault.2, greatest);
  unfinished = fault.3;
  five = fault.4;
}

pub cut : (bits first : ℕ) (rest : List ℕ) → first % 2 ^ bits ≡ 2 ^ bits - 1
    → IsMoreFault Truncated rest → IsCut bits (first ∷ rest)
cut bits first rest greatest fault = inr (rest, (first, refl, greatest), fault.0, fault.1)

pub behind_greatest : (fault : HpackFault) (bits first : ℕ) (rest : List ℕ)
    → first % 2 ^ bits ≡ 2 ^ bits - 1 → IsMoreFault fault rest
    → IsIntegerFault fault bits (first ∷ rest)
behind_greatest Integer bits first rest greatest f = inl (endless bits first rest greatest f)
behind_greatest Index bits first rest greatest f = f
behind_greatest Huffman bits first rest greatest f = f
behind_greatest SizeUpdate bits first rest greatest f = f
behind_greatest Truncated bits first rest greatest f = cut bits first rest greatest f
behind_greatest OutOfMemory bits first rest greatest f = f
behind_greatest Dead bits first rest greatest f = f
behind_greatest TooLarge bits first rest greatest f = f

-- `1 << bits`, as the code has it
abbrev pub span_of : ℕ → ℕ
span_of bits = 1 * 2 ^ bits % 2 ^ 64

pub span_is : (bits : ℕ) → bits < 8 → span_of bits ≡ 2 ^ bits
span_is bits h = one_shl bits 64 (omega arith)

-- the bytes behind the first
abbrev pub tail_of : List ℕ → List ℕ
tail_of bytes = take (length bytes - 1) (drop 1 bytes)

pub parted : (bytes : List ℕ) → 1 ≤ length bytes → bytes ≡ get_or bytes 0 0 ∷ tail_of bytes
parted [] h = absurd (omega arith)
parted (first ∷ rest) h = ap (λ tail. first ∷ tail) (sym (take_rest (first ∷ rest) 1))

pub takes_short_at : (bits first : ℕ) (bytes : List ℕ) → bits < 8 → 1 ≤ length bytes
    → first ≡ get_or bytes 0 0
    → first % span_of bits + 1 < span_of bits
    → TakesInteger bits bytes (first % span_of bits) (tail_of bytes)
takes_short_at bits first bytes b some is small =
    let e : bytes ≡ first ∷ tail_of bytes = rw is (parted bytes some) in
    let s = span_is bits b in
    subst (λ (front : List ℕ).
    TakesInteger bits front (first % span_of bits) (tail_of bytes)) (sym e)
    (takes_short bits first (first % span_of bits) (tail_of bytes) (ap (λ n. first % n) s)
    (subst (λ (n : ℕ). first % span_of bits + 1 < n) s small))

pub takes_long_at : (bits first high : ℕ) (bytes behind : List ℕ) → bits < 8 → 1 ≤ length bytes
    → first ≡ get_or bytes 0 0
    → span_of bits ≤ first % span_of bits + 1 → TakesMore (tail_of bytes) high behind
    → first % span_of bits + high < 2 ^ 32
    → TakesInteger bits bytes (first % span_of bits + high) behind
takes_long_at bits first high bytes behind b some is large more below =
    let e : bytes ≡ first ∷ tail_of bytes = rw is (parted bytes some) in
    let s = span_is bits b in
    let greatest : first % 2 ^ bits ≡ 2 ^ bits - 1 =
    greatest_prefix bits first (omega (arith, rw s at large)) in
    let number_is : first % span_of bits + high ≡ 2 ^ bits - 1 + high = rw (s, greatest) refl in
    subst (λ (front : List ℕ). TakesInteger bits front (first % span_of bits + high) behind) (sym e)
    (takes_long bits first high (first % span_of bits + high) (tail_of bytes) behind greatest
    more number_is below)

-- a fault behind the greatest prefix
pub fault_at : (fault : HpackFault) (bits first : ℕ) (bytes : List ℕ) → bits < 8 → 1 ≤ length bytes
    → first ≡ get_or bytes 0 0
    → span_of bits ≤ first % span_of bits + 1 → IsMoreFault fault (tail_of bytes)
    → IsIntegerFault fault bits bytes
fault_at fault bits first bytes b some is large f =
    let e : bytes ≡ first ∷ tail_of bytes = rw is (parted bytes some) in
    let s = span_is bits b in
    let greatest : first % 2 ^ bits ≡ 2 ^ bits - 1 =
    greatest_prefix bits first (omega (arith, rw s at large)) in
    subst (λ (front : List ℕ). IsIntegerFault fault bits front) (sym e)
    (behind_greatest fault bits first (tail_of bytes) greatest f)

pub over_at : (bits first high : ℕ) (bytes behind : List ℕ) → bits < 8 → 1 ≤ length bytes
    → first ≡ get_or bytes 0 0
    → span_of bits ≤ first % span_of bits + 1 → TakesMore (tail_of bytes) high behind
    → 2 ^ 32 ≤ first % span_of bits + high → IsIntegerFault Integer bits bytes
over_at bits first high bytes behind b some is large more over_it =
    let e : bytes ≡ first ∷ tail_of bytes = rw is (parted bytes some) in
    let s = span_is bits b in
    let greatest : first % 2 ^ bits ≡ 2 ^ bits - 1 =
    greatest_prefix bits first (omega (arith, rw s at large)) in
    let is_over : 2 ^ 32 ≤ 2 ^ bits - 1 + high = rw (s, greatest) at over_it in
    subst (λ (front : List ℕ). IsIntegerFault Integer bits front) (sym e)
    (inr (over bits first high (tail_of bytes) behind greatest more is_over))
