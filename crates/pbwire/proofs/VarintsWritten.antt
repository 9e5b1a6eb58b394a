-- The spelling that the writers give a number is a varint of that number.
use Rattle.std.proofs.Common.{
  ◌≡◌,
  ℕ,
  zero,
  suc,
  ◌+◌,
  ◌*◌,
  ◌/◌,
  ◌%◌,
  ◌^◌,
  ◌<◌,
  ◌≤◌,
  ◌⊎◌,
  List,
  [],
  ◌∷◌,
  ◌++◌,
  length,
  add-one,
  mod-eq_of_lt,
  append_assoc,
  take,
  Result,
  Ok,
  Err,
  refl,
  sym,
  ap,
  subst,
  ◌∙◌,
  arith,
  inl,
  inr,
}
use Rattle.std.specs.List.{enumerate_from, sum_by}
use Rattle.std.proofs.lemmas.Bool.{lt-ltb, le-ltb, cases_lt}
use Rattle.std.specs.Prelude.{OnErr}
use Rattle.std.proofs.lemmas.List.{length-append, take-append-le}
use Rattle.std.proofs.lemmas.List.Sums.{sum_by-cons}
use Rattle.std.proofs.lemmas.Nat.{div_below}
use Rattle.std.proofs.Math.Nat.{pow-succ', pow-suc, pow-le-pow_right}
use Rattle.pbwire.specs.Varint.{IsTerminated, sum_of_groups, IsVarint}
use Rattle.pbwire.specs.Spelling.{varint_within, varint_spelling}
use Rattle.pbwire.proofs.Varints.{IsTerminated-cons}

abbrev worth : ℕ × ℕ → ℕ
worth group = group.1 % 128 * 128 ^ group.0

-- the groups count 128 times as much one place further
shifted : (m : ℕ) (bytes : List ℕ)
    → sum_by worth (enumerate_from (m + 1) bytes) ≡ 128 * sum_by worth (enumerate_from m bytes)
shifted m [] = refl
shifted m (b ∷ bs) =
    let power : 128 ^ (m + 1) ≡ 128 * 128 ^ m =
    ap (λ (k : ℕ). 128 ^ k) (add-one m) ∙ pow-succ' 128 m in
    let here : b % 128 * 128 ^ (m + 1) ≡ 128 * (b % 128 * 128 ^ m) =
    ap (λ (k : ℕ). b % 128 * k) power ∙ omega arith in
    sum_by-cons worth (m + 1, b) (enumerate_from (m + 1 + 1) bs)
    ∙ ap (λ (k : ℕ). b % 128 * 128 ^ (m + 1) + k) (shifted (m + 1) bs)
    ∙ ap (λ (k : ℕ). k + 128 * sum_by worth (enumerate_from (m + 1) bs)) here
    ∙ sym
    (ap (λ (k : ℕ). 128 * k) (sum_by-cons worth (m, b) (enumerate_from (m + 1) bs)) ∙ omega arith)

pub sum_of_groups-cons : (byte : ℕ) (bytes : List ℕ)
    → sum_of_groups (byte ∷ bytes) ≡ byte % 128 + 128 * sum_of_groups bytes
sum_of_groups-cons byte bytes =
    sum_by-cons worth (0, byte) (enumerate_from 1 bytes)
    ∙ ap (λ (k : ℕ). byte % 128 * 1 + k) (shifted 0 bytes)
    ∙ omega arith

below_power : (k n : ℕ) → n < 128 ^ suc (suc k) → n / 128 < 128 ^ suc k
below_power k n lt =
    div_below n 128 (128 ^ suc k) (omega arith) (subst (λ (p : ℕ). n < p) (pow-suc 128 (suc k)) lt)

-- more groups than a number needs are not written
fewer : (k n : ℕ) → n < 128 ^ suc k → varint_within (suc k) n ≡ varint_within k n
fewer zero n lt = rw (lt-ltb n 128 lt) refl
fewer (suc k) n lt =
    elim (cases_lt n 128) [
      | inl low ↦ rw (lt-ltb n 128 low) refl
      | inr high ↦
          rw (le-ltb n 128 high)
          (ap (λ (t : List ℕ). (n % 128 + 128) ∷ t) (fewer k (n / 128) (below_power k n lt)))
    ]

pub varint_spelling-last : (n : ℕ) → n < 128 → varint_spelling n ≡ n ∷ []
unfolding varint_spelling
varint_spelling-last n lt = rw (lt-ltb n 128 lt) refl

pub varint_spelling-more : (n : ℕ) → 128 ≤ n → n < 2 ^ 64
    → varint_spelling n ≡ (n % 128 + 128) ∷ varint_spelling (n / 128)
unfolding varint_spelling
varint_spelling-more n high fits =
    let lt : n / 128 < 128 ^ 9 = omega arith in
    rw (le-ltb n 128 high) (ap (λ (t : List ℕ). (n % 128 + 128) ∷ t) (sym (fewer 8 (n / 128) lt)))

-- ---- it is a varint

record Spells (k n : ℕ) (bytes : List ℕ) : Type 0 where
  terminated : IsTerminated bytes
  short : length bytes ≤ suc k
  sum : sum_of_groups bytes ≡ n

one_byte : (k n : ℕ) → n < 128 → Spells k n (n ∷ [])
one_byte k n lt =
    record { terminated = lt; short = omega arith; sum = sum_of_groups-cons n [] ∙ omega arith }

more_bytes : (k n : ℕ) (bytes : List ℕ) → Spells k (n / 128) bytes
    → Spells (suc k) n ((n % 128 + 128) ∷ bytes)
more_bytes k n bytes rest =
    let sum : sum_of_groups bytes ≡ n / 128 = rest.sum in
    let short : length bytes ≤ suc k = rest.short in
    record {
      terminated = IsTerminated-cons (n % 128 + 128) bytes (omega arith) rest.terminated;
      short = omega arith;
      sum = sum_of_groups-cons (n % 128 + 128) bytes ∙ omega arith;
    }

spelled : (k n : ℕ) → n < 128 ^ suc k → Spells k n (varint_within k n)
spelled zero n lt = one_byte zero n lt
spelled (suc k) n lt =
    elim (cases_lt n 128) [
      | inl low ↦ rw (lt-ltb n 128 low) (one_byte (suc k) n low)
      | inr high ↦
          rw (le-ltb n 128 high)
          (more_bytes k n (varint_within k (n / 128)) (spelled k (n / 128) (below_power k n lt)))
    ]

pub is_varint : (n : ℕ) → n < 2 ^ 64 → IsVarint (varint_spelling n) n
unfolding varint_spelling
is_varint n fits =
    let s = spelled 9 n (omega arith) in
    let sum : sum_of_groups (varint_within 9 n) ≡ n = s.sum in
    record {
      terminated = s.terminated;
      short = s.short;
      value = sym (ap (λ (k : ℕ). k % 2 ^ 64) sum ∙ mod-eq_of_lt fits);
    }

-- ---- one turn of the loop

pub pushed : (old out new : List ℕ) (n rest : ℕ) → 128 ≤ rest → rest < 2 ^ 64
    → new ≡ out ++ (rest % 128 + 128) ∷ []
    → out ++ varint_spelling rest ≡ old ++ varint_spelling n
    → new ++ varint_spelling (rest / 128) ≡ old ++ varint_spelling n
pushed old out new n rest high fits new_is so_far =
    ap (λ (t : List ℕ). t ++ varint_spelling (rest / 128)) new_is
    ∙ append_assoc out ((rest % 128 + 128) ∷ []) (varint_spelling (rest / 128))
    ∙ ap (λ (t : List ℕ). out ++ t) (sym (varint_spelling-more rest high fits))
    ∙ so_far

pub pushed_last : (old out new : List ℕ) (n rest : ℕ) → rest < 128 → new ≡ out ++ rest ∷ []
    → out ++ varint_spelling rest ≡ old ++ varint_spelling n → new ≡ old ++ varint_spelling n
pushed_last old out new n rest low new_is so_far =
    new_is ∙ ap (λ (t : List ℕ). out ++ t) (sym (varint_spelling-last rest low)) ∙ so_far

pub kept : (k : ℕ) (old out new more : List ℕ) → take k out ≡ old → k ≤ length out
    → new ≡ out ++ more → take k new ≡ old
kept k old out new more before long new_is =
    ap (λ (t : List ℕ). take k t) new_is ∙ take-append-le k out more long ∙ before

-- ---- a byte at least is still to be written

some_bytes : (bytes : List ℕ) → IsTerminated bytes → 0 < length bytes
some_bytes [] ended = absurd ended
some_bytes (x ∷ xs) ended = omega arith

pub some_left : (old out : List ℕ) (n rest : ℕ) → rest < 2 ^ 64
    → out ++ varint_spelling rest ≡ old ++ varint_spelling n
    → length out < length old + length (varint_spelling n)
some_left old out n rest fits so_far =
    let some = some_bytes (varint_spelling rest) (is_varint rest fits).terminated in
    omega (
      arith,
      ap length so_far,
      length-append out (varint_spelling rest),
      length-append old (varint_spelling n),
    )

pub on_err : {T E P : Type 0} (r : Result T E) → P → OnErr r P
on_err (Ok x) p = tt
on_err (Err e) p = p

-- ---- no spelling is shorter

sum_below : (bytes : List ℕ) → sum_of_groups bytes < 128 ^ length bytes
sum_below [] = omega arith
sum_below (x ∷ xs) =
    let behind : sum_of_groups xs < 128 ^ length xs = sum_below xs in
    let power : 128 ^ suc (length xs) ≡ 128 * 128 ^ length xs = pow-succ' 128 (length xs) in
    let here : sum_of_groups (x ∷ xs) ≡ x % 128 + 128 * sum_of_groups xs =
    sum_of_groups-cons x xs in
    omega arith

short_within : (k j n : ℕ) → n < 128 ^ suc j → length (varint_within k n) ≤ suc j
short_within zero j n lt = omega arith
short_within (suc k) zero n lt = rw (lt-ltb n 128 lt) (omega arith)
short_within (suc k) (suc j) n lt =
    elim (cases_lt n 128) [
      | inl low ↦ rw (lt-ltb n 128 low) (omega arith)
      | inr high ↦
          let behind : length (varint_within k (n / 128)) ≤ suc j =
          short_within k j (n / 128) (below_power j n lt) in
          rw (le-ltb n 128 high) (omega arith)
    ]

shortest_of : (n : ℕ) (bytes : List ℕ) → n < 2 ^ 64 → IsVarint bytes n
    → (length bytes < 10) ⊎ (10 ≤ length bytes) → length (varint_spelling n) ≤ length bytes
unfolding varint_spelling
shortest_of n [] fits there size = absurd there.terminated
shortest_of n (x ∷ xs) fits there (inl few) =
    let power : 128 ^ suc (length xs) ≤ 128 ^ 9 =
    pow-le-pow_right {n = 128} (omega arith) {i = suc (length xs)} {j = 9} (omega arith) in
    let below : sum_of_groups (x ∷ xs) < 128 ^ suc (length xs) = sum_below (x ∷ xs) in
    let whole : sum_of_groups (x ∷ xs) < 2 ^ 64 = omega arith in
    let value : n ≡ sum_of_groups (x ∷ xs) = there.value ∙ mod-eq_of_lt whole in
    short_within 9 (length xs) n (subst (λ (k : ℕ). k < 128 ^ suc (length xs)) (sym value) below)
shortest_of n (x ∷ xs) fits there (inr many) =
    let short : length (varint_within 9 n) ≤ 10 = (is_varint n fits).short in
    omega arith

pub shortest : (n : ℕ) (bytes : List ℕ) → n < 2 ^ 64 → IsVarint bytes n
    → length (varint_spelling n) ≤ length bytes
shortest n bytes fits there = shortest_of n bytes fits there (cases_lt (length bytes) 10)

-- ---- how many bytes it takes

pub one_longer : (n : ℕ) → 128 ≤ n → n < 2 ^ 64
    → length (varint_spelling n) ≡ suc (length (varint_spelling (n / 128)))
one_longer n high fits = ap length (varint_spelling-more n high fits)

pub one_long : (n : ℕ) → n < 128 → length (varint_spelling n) ≡ 1
one_long n low = ap length (varint_spelling-last n low)

pub len_bounds : (n : ℕ) → n < 2 ^ 64
    → (0 < length (varint_spelling n)) × (length (varint_spelling n) ≤ 10)
len_bounds n fits =
    (some_bytes (varint_spelling n) (is_varint n fits).terminated, (is_varint n fits).short)
