-- Reading a varint as a function reads the varint that is there, or tells why there is none, and
-- there is one reading.
use Rattle.std.proofs.Common.{
  ◌≡◌,
  ℕ,
  zero,
  suc,
  ◌+◌,
  ◌*◌,
  ◌%◌,
  ◌^◌,
  ◌<◌,
  ◌≤◌,
  ◌⊎◌,
  List,
  [],
  ◌∷◌,
  ◌++◌,
  length,
  take,
  drop,
  Result,
  Ok,
  Err,
  refl,
  sym,
  ap,
  subst,
  ◌∙◌,
  arith,
  inl,
  inr,
  zero-add,
  get_or,
  bit_and,
  min,
}
use Rattle.std.specs.List.{AllByRecursion, enumerate_from, sum_by}
use Rattle.std.proofs.lemmas.Bool.{lt-ltb, le-ltb, cases_lt}
use Rattle.std.proofs.lemmas.List.{
  take-append-drop,
  length-take,
  length-drop,
  take_more,
  take-take,
  take_all,
}
use Rattle.std.proofs.lemmas.Nat.{pow-add, and_mask}
use Rattle.std.proofs.Math.Nat.{pow-succ', add-mod}
use Rattle.std.proofs.lemmas.List.Sums.{sum_by-append}
use Rattle.pbwire.specs.declared.fault.WireFault.{WireFault}
use Rattle.pbwire.specs.declared.fault.WireFault.TheVariants.{
  Truncated,
  VarintTooLong,
  BadTag,
  Group,
  OutOfMemory,
}
use Rattle.pbwire.specs.Varint.{
  HasTopBit,
  IsTerminated,
  sum_of_groups,
  IsVarint,
  StartsWithVarint,
  IsOverlong,
  IsUnfinished,
  VarintFault,
}
use Rattle.pbwire.specs.Reading.{◌>>=◌, varint_bytes, varint_at}

-- ---- the bytes of a varint, built up at the end

pub IsTerminated-push : (front : List ℕ) (last : ℕ) → AllByRecursion HasTopBit front → last < 128
    → IsTerminated (front ++ last ∷ [])
IsTerminated-push [] last high low = low
IsTerminated-push (x ∷ []) last high low = (high.0, low)
IsTerminated-push (x ∷ y ∷ ys) last high low = (high.0, IsTerminated-push (y ∷ ys) last high.1 low)

pub high-push : (front : List ℕ) (last : ℕ) → AllByRecursion HasTopBit front → HasTopBit last
    → AllByRecursion HasTopBit (front ++ last ∷ [])
high-push [] last high top = (top, tt)
high-push (x ∷ xs) last high top = (high.0, high-push xs last high.1 top)

enumerate_from-append : {X : Type 0} (n : ℕ) (xs ys : List X)
    → enumerate_from n (xs ++ ys) ≡ enumerate_from n xs ++ enumerate_from (n + length xs) ys
enumerate_from-append n [] ys = ap (λ (k : ℕ). enumerate_from k ys) (omega arith)
enumerate_from-append n (x ∷ xs) ys =
    let k : n + 1 + length xs ≡ n + length (x ∷ xs) = omega arith in
    ap (λ t. (n, x) ∷ t) (enumerate_from-append (n + 1) xs ys
    ∙ ap (λ (k : ℕ). enumerate_from (n + 1) xs ++ enumerate_from k ys) k)

pub sum_of_groups-push : (front : List ℕ) (last : ℕ)
    → sum_of_groups (front ++ last ∷ []) ≡ sum_of_groups front + last % 128 * 128 ^ length front
sum_of_groups-push front last =
    ap (λ t. sum_by (λ (group : ℕ × ℕ). group.1 % 128 * 128 ^ group.0) t)
    (enumerate_from-append 0 front (last ∷ []))
    ∙ sum_by-append (λ (group : ℕ × ℕ). group.1 % 128 * 128 ^ group.0) (enumerate_from 0 front)
    (enumerate_from (0 + length front) (last ∷ []))
    ∙ ap (λ (k : ℕ). sum_of_groups front + (0 + last % 128 * 128 ^ k)) (zero-add (length front))
    ∙ ap (λ (k : ℕ). sum_of_groups front + k) (zero-add (last % 128 * 128 ^ length front))

-- ---- the function finds what is there

pub IsTerminated-cons : (byte : ℕ) (bytes : List ℕ) → HasTopBit byte → IsTerminated bytes
    → IsTerminated (byte ∷ bytes)
IsTerminated-cons byte [] top ended = absurd ended
IsTerminated-cons byte (x ∷ xs) top ended = (top, ended)

finds : (k : ℕ) (spelling rest : List ℕ) → IsTerminated spelling → length spelling ≤ k
    → varint_bytes k (spelling ++ rest) ≡ Ok (spelling, rest)
finds k [] rest ended short = absurd ended
finds zero (x ∷ xs) rest ended short = absurd (omega arith)
finds (suc k) (x ∷ []) rest ended short = rw (lt-ltb x 128 ended) refl
finds (suc k) (x ∷ y ∷ ys) rest ended short =
    rw (le-ltb x 128 ended.0, finds k (y ∷ ys) rest ended.1 (omega arith)) refl

finds_overlong : (k : ℕ) (input : List ℕ) → k ≤ length input
    → AllByRecursion HasTopBit (take k input) → varint_bytes k input ≡ Err VarintTooLong
finds_overlong zero input long high = refl
finds_overlong (suc k) [] long high = absurd (omega arith)
finds_overlong (suc k) (x ∷ xs) long high =
    rw (le-ltb x 128 high.0, finds_overlong k xs (omega arith) high.1) refl

finds_unfinished : (k : ℕ) (input : List ℕ) → length input < k → AllByRecursion HasTopBit input
    → varint_bytes k input ≡ Err Truncated
finds_unfinished zero input cut high = absurd (omega arith)
finds_unfinished (suc k) [] cut high = refl
finds_unfinished (suc k) (x ∷ xs) cut high =
    rw (le-ltb x 128 high.0, finds_unfinished k xs (omega arith) high.1) refl

-- ---- what the function finds is there

abbrev Found : ℕ → List ℕ → Result (List ℕ × List ℕ) WireFault → Type 0
Found k input (Ok parts) =
    IsTerminated parts.0 × (length parts.0 ≤ k) × (input ≡ parts.0 ++ parts.1)
Found k input (Err Truncated) = (length input < k) × AllByRecursion HasTopBit input
Found k input (Err VarintTooLong) = (k ≤ length input) × AllByRecursion HasTopBit (take k input)
Found k input (Err BadTag) = ⊥
Found k input (Err Group) = ⊥
Found k input (Err OutOfMemory) = ⊥

Found-cons : (k byte : ℕ) (input : List ℕ) (r : Result (List ℕ × List ℕ) WireFault) → HasTopBit byte
    → Found k input r → Found (suc k) (byte ∷ input) (r >>= λ parts. Ok (byte ∷ parts.0, parts.1))
Found-cons k byte input (Ok parts) top found = (
  IsTerminated-cons byte parts.0 top found.0,
  omega (arith, found.1),
  ap (λ (t : List ℕ). byte ∷ t) found.2,
)
Found-cons k byte input (Err Truncated) top found = (omega (arith, found.0), (top, found.1))
Found-cons k byte input (Err VarintTooLong) top found = (omega (arith, found.0), (top, found.1))
Found-cons k byte input (Err BadTag) top found = found
Found-cons k byte input (Err Group) top found = found
Found-cons k byte input (Err OutOfMemory) top found = found

found : (k : ℕ) (input : List ℕ) → Found k input (varint_bytes k input)
found zero input = (omega arith, tt)
found (suc k) [] = (omega arith, tt)
found (suc k) (x ∷ xs) =
    elim (cases_lt x 128) [
      | inl low ↦ rw (lt-ltb x 128 low) (low, omega arith, refl)
      | inr high ↦ rw (le-ltb x 128 high) (Found-cons k x xs (varint_bytes k xs) high (found k xs))
    ]

-- ---- the two directions for a whole varint

starts_with : (input spelling rest : List ℕ) (number : ℕ) → IsTerminated spelling
    → length spelling ≤ 10 → input ≡ spelling ++ rest → number ≡ sum_of_groups spelling % 2 ^ 64
    → StartsWithVarint input number rest
starts_with input spelling rest number ended short parts value =
    record {
      spelling = spelling;
      spelled = record { terminated = ended; short = short; value = value };
      parts = parts;
    }

-- what reading a varint answers is there
abbrev pub VarintRead : List ℕ → Result (ℕ × List ℕ) WireFault → Type 0
VarintRead input (Ok found) = StartsWithVarint input found.0 found.1
VarintRead input (Err fault) = VarintFault input fault

read_from_found : (input : List ℕ) (r : Result (List ℕ × List ℕ) WireFault) → Found 10 input r
    → VarintRead input (r >>= λ parts. Ok (sum_of_groups parts.0 % 2 ^ 64, parts.1))
read_from_found input (Ok parts) found =
    starts_with input parts.0 parts.1 (sum_of_groups parts.0 % 2 ^ 64) found.0 found.1 found.2 refl
read_from_found input (Err Truncated) found = found
read_from_found input (Err VarintTooLong) found = found
read_from_found input (Err BadTag) found = found
read_from_found input (Err Group) found = found
read_from_found input (Err OutOfMemory) found = found

pub varint_read : (input : List ℕ) → VarintRead input (varint_at input)
unfolding varint_at
varint_read input = read_from_found input (varint_bytes 10 input) (found 10 input)

pub reads_varint : (input : List ℕ) (number : ℕ) (rest : List ℕ)
    → StartsWithVarint input number rest → varint_at input ≡ Ok (number, rest)
unfolding varint_at
reads_varint input number rest there =
    rw (there.parts, finds 10 there.spelling rest there.spelled.terminated there.spelled.short)
    (ap (λ (n : ℕ). Ok (n, rest)) (sym there.spelled.value))

pub reads_fault : (input : List ℕ) (fault : WireFault) → VarintFault input fault
    → varint_at input ≡ Err fault
unfolding varint_at
reads_fault input Truncated there = rw (finds_unfinished 10 input there.0 there.1) refl
reads_fault input VarintTooLong there = rw (finds_overlong 10 input there.0 there.1) refl
reads_fault input BadTag there = absurd there
reads_fault input Group there = absurd there
reads_fault input OutOfMemory there = absurd there

-- ---- by length

pub taken : (input : List ℕ) (number len : ℕ) → IsVarint (take len input) number
    → StartsWithVarint input number (drop len input)
taken input number len spelled = record {
  spelling = take len input;
  spelled = spelled;
  parts = sym (take-append-drop len input);
}

same_len : (input : List ℕ) (m n : ℕ) → m ≤ length input → n ≤ length input
    → drop m input ≡ drop n input → m ≡ n
same_len input m n p q e = omega (arith, ap length e, length-drop m input, length-drop n input)

abbrev answer : ℕ → List ℕ → Result (ℕ × List ℕ) WireFault
answer number rest = Ok (number, rest)

same_answer : (m n : ℕ) (a b : List ℕ) → answer m a ≡ answer n b → (m ≡ n) × (a ≡ b)
same_answer m n a b e =
    let pairs : (m, a) ≡ (n, b) = cc in
    (ap (λ (p : ℕ × List ℕ). p.0) pairs, ap (λ (p : ℕ × List ℕ). p.1) pairs)

-- there is one varint at the front
pub one_varint : (input : List ℕ) (number len : ℕ) → len ≤ length input
    → IsVarint (take len input) number
    → (n l : ℕ) → l ≤ length input → IsVarint (take l input) n → (number ≡ n) × (len ≡ l)
one_varint input number len within spelled n l l_within n_spelled =
    let e : answer number (drop len input) ≡ answer n (drop l input) =
    sym (reads_varint input number (drop len input) (taken input number len spelled))
    ∙ reads_varint input n (drop l input) (taken input n l n_spelled) in
    let same = same_answer number n (drop len input) (drop l input) e in
    (same.0, same_len input len l within l_within same.1)

pub no_fault : (input : List ℕ) (number len : ℕ) → IsVarint (take len input) number
    → (fault : WireFault) → VarintFault input fault → ⊥
no_fault input number len spelled fault there =
    let e : answer number (drop len input) ≡ Err fault =
    sym (reads_varint input number (drop len input) (taken input number len spelled))
    ∙ reads_fault input fault there in
    cc

pub same_fault : (input : List ℕ) (fault other : WireFault) → VarintFault input fault
    → VarintFault input other → fault ≡ other
same_fault input fault other there also =
    let read : WireFault → Result (ℕ × List ℕ) WireFault = λ d. Err d in
    let e : read fault ≡ read other =
    sym (reads_fault input fault there) ∙ reads_fault input other also in
    cc

-- ---- one turn of the loop

pub pow_128 : (i : ℕ) → 2 ^ (7 * i) ≡ 128 ^ i
pow_128 zero = refl
pow_128 (suc i) =
    let k : 7 * suc i ≡ 7 + 7 * i = omega arith in
    ap (λ (n : ℕ). 2 ^ n) k ∙ pow-add 2 7 (7 * i) ∙ ap (λ (n : ℕ). 128 * n) (pow_128 i)
    ∙ sym (pow-succ' 128 i)

-- one more group
pub more_groups : (front : List ℕ) (i group number : ℕ) → i < length front
    → group ≡ bit_and (get_or front i 0) 127 → number ≡ sum_of_groups (take i front) % 2 ^ 64
    → (number + group * 2 ^ (7 * i) % 2 ^ 64) % 2 ^ 64 ≡ sum_of_groups (take (i + 1) front) % 2 ^ 64
more_groups front i group number within is_group so_far =
    let byte = get_or front i 0 in
    let len : length (take i front) ≡ i = omega (arith, length-take i front) in
    let sum_is : sum_of_groups (take (i + 1) front) ≡ sum_of_groups (take i front) + byte % 128
    * 128 ^ i =
    ap sum_of_groups (take_more front i 0 within) ∙ sum_of_groups-push (take i front) byte
    ∙ ap (λ (k : ℕ). sum_of_groups (take i front) + byte % 128 * 128 ^ k) len in
    let group_is : group * 2 ^ (7 * i) ≡ byte % 128 * 128 ^ i =
    rw (is_group, and_mask byte 7, pow_128 i) refl in
    ap (λ (k : ℕ). (k + group * 2 ^ (7 * i) % 2 ^ 64) % 2 ^ 64) so_far
    ∙ sym (add-mod (sum_of_groups (take i front)) (group * 2 ^ (7 * i)) (2 ^ 64))
    ∙ ap (λ (k : ℕ). (sum_of_groups (take i front) + k) % 2 ^ 64) group_is
    ∙ ap (λ (k : ℕ). k % 2 ^ 64) (sym sum_is)

-- a byte with the top bit goes on
pub goes_on : (front : List ℕ) (i : ℕ) → i < length front → 128 ≤ get_or front i 0
    → AllByRecursion HasTopBit (take i front) → AllByRecursion HasTopBit (take (i + 1) front)
goes_on front i within top high =
    rw (take_more front i 0 within) (high-push (take i front) (get_or front i 0) high top)

-- a byte without it is the last
pub ends : (bytes : List ℕ) (m i number : ℕ) → m ≤ 10 → m ≤ length bytes → i < m
    → get_or (take m bytes) i 0 < 128
    → AllByRecursion HasTopBit (take i (take m bytes))
    → number ≡ sum_of_groups (take (i + 1) (take m bytes)) % 2 ^ 64
    → IsVarint (take (i + 1) bytes) number
ends bytes m i number short within lt low high sum =
    let front = take m bytes in
    let len : length front ≡ m = omega (arith, length-take m bytes) in
    let inside : i < length front = omega arith in
    let whole : take (i + 1) front ≡ take (i + 1) bytes = take-take (i + 1) m bytes (omega arith) in
    subst (λ (t : List ℕ). IsVarint t number) whole (record {
      terminated =
          subst IsTerminated (sym (take_more front i 0 inside))
          (IsTerminated-push (take i front) (get_or front i 0) high low);
      short = omega (arith, length-take (i + 1) front);
      value = sum;
    })

-- ---- the end of the loop

pub is_unfinished : (bytes : List ℕ) (m i : ℕ) → m ≡ min (length bytes) 10
    → length (take m bytes) ≤ i → AllByRecursion HasTopBit (take i (take m bytes))
    → length bytes < 10 → IsUnfinished bytes
is_unfinished bytes m i m_is done high lt =
    let all : take m bytes ≡ bytes = take_all m bytes (omega arith) in
    let seen : take i (take m bytes) ≡ bytes = take_all i (take m bytes) done ∙ all in
    (lt, subst (AllByRecursion HasTopBit) seen high)

pub is_overlong : (bytes : List ℕ) (m i : ℕ) → m ≡ min (length bytes) 10 → length (take m bytes) ≤ i
    → AllByRecursion HasTopBit (take i (take m bytes)) → 10 ≤ length bytes → IsOverlong bytes
is_overlong bytes m i m_is done high long =
    let ten : m ≡ 10 = omega arith in
    let seen : take i (take m bytes) ≡ take 10 bytes =
    take_all i (take m bytes) done ∙ ap (λ (k : ℕ). take k bytes) ten in
    (long, subst (AllByRecursion HasTopBit) seen high)

-- ---- as laws

pub same_varint : (input : List ℕ) (m n : ℕ) (rest more : List ℕ) → StartsWithVarint input m rest
    → StartsWithVarint input n more → (m ≡ n) × (rest ≡ more)
same_varint input m n rest more there also =
    same_answer m n rest more
    (sym (reads_varint input m rest there) ∙ reads_varint input n more also)

pub not_both : (input : List ℕ) (number : ℕ) (rest : List ℕ) (fault : WireFault)
    → StartsWithVarint input number rest → VarintFault input fault → ⊥
not_both input number rest fault there wrong =
    let e : answer number rest ≡ Err fault =
    sym (reads_varint input number rest there) ∙ reads_fault input fault wrong in
    cc

either_of : (input : List ℕ) (r : Result (ℕ × List ℕ) WireFault) → VarintRead input r
    → ((number : ℕ) × (rest : List ℕ) × StartsWithVarint input number rest)
    ⊎ ((fault : WireFault) × VarintFault input fault)
either_of input (Ok found) read = inl (found.0, found.1, read)
either_of input (Err fault) read = inr (fault, read)

pub either : (input : List ℕ)
    → ((number : ℕ) × (rest : List ℕ) × StartsWithVarint input number rest)
    ⊎ ((fault : WireFault) × VarintFault input fault)
either input = either_of input (varint_at input) (varint_read input)
