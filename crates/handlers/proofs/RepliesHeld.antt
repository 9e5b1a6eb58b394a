-- What is held is read again.
use Rattle.std.proofs.Common.{
  ◌≡◌,
  ℕ,
  zero,
  suc,
  ◌+◌,
  ◌*◌,
  ◌/◌,
  ◌%◌,
  ◌^◌,
  ◌<◌,
  ◌≤◌,
  List,
  [],
  ◌∷◌,
  ◌++◌,
  length,
  take,
  drop,
  map,
  Result,
  Ok,
  Err,
  refl,
  sym,
  ap,
  subst,
  ◌∙◌,
  arith,
  inl,
  inr,
  append-nil,
  append_assoc,
  ℤ,
  ◌-◌,
}
use Rattle.std.specs.List.{flat_map, AllByRecursion}
use Rattle.std.proofs.lemmas.Bool.{lt-ltb, le-ltb, cases_lt}
use Rattle.std.proofs.lemmas.List.{length-append, drop-append-le, map-append}
use Rattle.std.proofs.lemmas.List.Concat.{flat_map-append}
use Rattle.std.proofs.lemmas.Nat.{div_below}
use Rattle.std.proofs.Math.Seq.{drop-append_seam}
use Rattle.std.proofs.Math.Nat.{pow-suc}
use Rattle.std.proofs.lemmas.Int.{to_z-of_z, ints}
use Rattle.std.specs.Int.{w32, cast_signed, cast_unsigned}
use Rattle.std.specs.Int.RustNames.{FitsSigned}
use Rattle.std.proofs.lemmas.List.{take_at, take_all}
use Rattle.pbwire.specs.declared.fault.WireFault.{WireFault}
use Rattle.pbwire.specs.Varint.{IsVarint}
use Rattle.pbwire.specs.Spelling.{varint_within, varint_spelling}
use Rattle.pbwire.proofs.VarintsWritten.{is_varint}
use Rattle.handlers.specs.declared.reply.Reply.TheVariants.{Empty, Zeros, Sum}
use Rattle.handlers.specs.HeldReplies.{
  reply_of,
  IsNumber,
  carried,
  numbers_of,
  held_by,
  AreHeld,
  BeginsWith,
}

-- ---- one number

below_power : (k n : ℕ) → n < 128 ^ suc (suc k) → n / 128 < 128 ^ suc k
below_power k n lt =
    div_below n 128 (128 ^ suc k) (omega arith) (subst (λ (p : ℕ). n < p) (pow-suc 128 (suc k)) lt)

last_byte : (n : ℕ) (bytes : List ℕ) → n < 128 → numbers_of (n ∷ bytes) ≡ n ∷ numbers_of bytes
unfolding numbers_of
last_byte n bytes low = rw (lt-ltb n 128 low) refl

more_byte : (n : ℕ) (bytes : List ℕ) (numbers : List ℕ) → numbers_of bytes ≡ n / 128 ∷ numbers
    → numbers_of ((n % 128 + 128) ∷ bytes) ≡ n ∷ numbers
unfolding numbers_of carried
more_byte n bytes numbers is =
    let high : 128 ≤ n % 128 + 128 = omega arith in
    let whole : (n % 128 + 128) % 128 + 128 * (n / 128) ≡ n = omega arith in
    rw (le-ltb (n % 128 + 128) 128 high)
    (ap (λ (ns : List ℕ). carried (n % 128 + 128) ns) is ∙ ap (λ (m : ℕ). m ∷ numbers) whole)

within : (k n : ℕ) (rest : List ℕ) → n < 128 ^ suc k
    → numbers_of (varint_within k n ++ rest) ≡ n ∷ numbers_of rest
within zero n rest lt = last_byte n rest lt
within (suc k) n rest lt =
    elim (cases_lt n 128) [
      | inl low ↦ rw (lt-ltb n 128 low) (last_byte n rest low)
      | inr high ↦
          rw (le-ltb n 128 high) (more_byte n (varint_within k (n / 128) ++ rest) (numbers_of rest)
          (within k (n / 128) rest (below_power k n lt)))
    ]

pub read_one : (n : ℕ) (rest : List ℕ) → IsNumber n
    → numbers_of (varint_spelling n ++ rest) ≡ n ∷ numbers_of rest
unfolding varint_spelling
read_one n rest fits = within 9 n rest (omega arith)

pub none_held : numbers_of [] ≡ []
unfolding numbers_of
none_held = refl

-- ---- all of them

read_all : (numbers : List ℕ) (rest : List ℕ) → AllByRecursion IsNumber numbers
    → numbers_of (flat_map varint_spelling numbers ++ rest) ≡ numbers ++ numbers_of rest
read_all [] rest fit = refl
read_all (n ∷ ns) rest fit =
    ap numbers_of (append_assoc (varint_spelling n) (flat_map varint_spelling ns) rest)
    ∙ read_one n (flat_map varint_spelling ns ++ rest) fit.0
    ∙ ap (λ (l : List ℕ). n ∷ l) (read_all ns rest fit.1)

read_again : (numbers : List ℕ) → AllByRecursion IsNumber numbers
    → numbers_of (flat_map varint_spelling numbers) ≡ numbers
read_again numbers fit =
    ap numbers_of (sym (append-nil (flat_map varint_spelling numbers))) ∙ read_all numbers [] fit
    ∙ ap (λ (l : List ℕ). numbers ++ l) none_held ∙ append-nil numbers

all_held : (numbers : List ℕ) → AllByRecursion IsNumber numbers
    → AreHeld (flat_map varint_spelling numbers)
all_held numbers fit = record {
  spelled = ap (flat_map varint_spelling) (sym (read_again numbers fit));
  fit = subst (AllByRecursion IsNumber) (sym (read_again numbers fit)) fit;
}

all_append : (xs ys : List ℕ) → AllByRecursion IsNumber xs → AllByRecursion IsNumber ys
    → AllByRecursion IsNumber (xs ++ ys)
all_append [] ys first second = second
all_append (x ∷ xs) ys first second = (first.0, all_append xs ys first.1 second)

numbers_append : (one other : List ℕ) → AreHeld one
    → numbers_of (one ++ other) ≡ numbers_of one ++ numbers_of other
numbers_append one other are =
    ap (λ (l : List ℕ). numbers_of (l ++ other)) are.spelled
    ∙ read_all (numbers_of one) other are.fit

held_append : (one other : List ℕ) → AreHeld one → AreHeld other → AreHeld (one ++ other)
held_append one other are also =
    subst AreHeld (flat_map-append varint_spelling (numbers_of one) (numbers_of other)
    ∙ sym (cc (are.spelled, also.spelled)))
    (all_held (numbers_of one ++ numbers_of other)
    (all_append (numbers_of one) (numbers_of other) are.fit also.fit))

-- ---- the first of them

begins : (n : ℕ) (ns bytes : List ℕ) → bytes ≡ varint_spelling n ++ flat_map varint_spelling ns
    → AllByRecursion IsNumber (n ∷ ns) → BeginsWith bytes n (length (varint_spelling n))
begins n ns bytes split fit =
    let behind : drop (length (varint_spelling n)) bytes ≡ flat_map varint_spelling ns =
    ap (drop (length (varint_spelling n))) split
    ∙ drop-append_seam (varint_spelling n) (flat_map varint_spelling ns) in
    record {
      short = omega
          (arith, ap length split, length-append (varint_spelling n) (flat_map varint_spelling ns));
      fits = fit.0;
      numbers =
          ap numbers_of split ∙ read_one n (flat_map varint_spelling ns) fit.0
          ∙ ap (λ (l : List ℕ). n ∷ l) (ap numbers_of (sym behind));
      behind = subst AreHeld (sym behind) (all_held ns fit.1);
    }

is_read : (n : ℕ) (bytes behind : List ℕ) → bytes ≡ varint_spelling n ++ behind → IsNumber n
    → IsVarint (take (length (varint_spelling n)) bytes) n
is_read n bytes behind split fits =
    let front : take (length (varint_spelling n)) bytes ≡ varint_spelling n =
    ap (take (length (varint_spelling n))) split
    ∙ take_at (varint_spelling n) behind (length (varint_spelling n)) refl in
    subst (λ (l : List ℕ). IsVarint l n) (sym front) (is_varint n (omega arith))

-- a reader finds each varint that there is
abbrev Finds : List ℕ → Result (ℕ × ℕ) WireFault → Type 0
Finds bytes result =
    (number len : ℕ) → len ≤ length bytes → IsVarint (take len bytes) number
    → result ≡ Ok (number, len)

found_first : (n : ℕ) (ns bytes : List ℕ) (result : Result (ℕ × ℕ) WireFault)
    → numbers_of bytes ≡ n ∷ ns → AreHeld bytes → Finds bytes result
    → BeginsWith bytes n (length (varint_spelling n))
    × (result ≡ Ok (n, length (varint_spelling n)))
found_first n ns bytes result is are finds =
    let split : bytes ≡ varint_spelling n ++ flat_map varint_spelling ns =
    are.spelled ∙ ap (flat_map varint_spelling) is in
    let fit : AllByRecursion IsNumber (n ∷ ns) = subst (AllByRecursion IsNumber) is are.fit in
    let first : BeginsWith bytes n (length (varint_spelling n)) = begins n ns bytes split fit in (
      first,
      finds n (length (varint_spelling n)) first.short
          (is_read n bytes (flat_map varint_spelling ns) split fit.0),
    )

same_found : (result : Result (ℕ × ℕ) WireFault) (found other : ℕ × ℕ) → result ≡ Ok found
    → result ≡ Ok other → found ≡ other
same_found result found other is same = cc

no_varint : (n len : ℕ) → IsVarint (take len []) n → ⊥
no_varint n len is =
    (subst (λ (l : List ℕ). IsVarint l n) (take_all len [] (omega arith)) is).terminated

begins_by : (bytes : List ℕ) (found : ℕ × ℕ) (numbers : List ℕ) → numbers_of bytes ≡ numbers
    → AreHeld bytes → IsVarint (take found.1 bytes) found.0 → Finds bytes (Ok found)
    → BeginsWith bytes found.0 found.1
begins_by bytes found [] is are ok finds =
    let none : bytes ≡ [] = are.spelled ∙ ap (flat_map varint_spelling) is in
    absurd
    (no_varint found.0 found.1 (subst (λ (l : List ℕ). IsVarint (take found.1 l) found.0) none ok))
begins_by bytes found (n ∷ ns) is are ok finds =
    let first = found_first n ns bytes (Ok found) is are finds in
    subst (λ (f : ℕ × ℕ). BeginsWith bytes f.0 f.1)
    (sym (same_found (Ok found) found (n, length (varint_spelling n)) refl first.1)) first.0

pub is_first : (bytes : List ℕ) (found : ℕ × ℕ) → AreHeld bytes
    → IsVarint (take found.1 bytes) found.0 → Finds bytes (Ok found)
    → BeginsWith bytes found.0 found.1
is_first bytes found are ok finds = begins_by bytes found (numbers_of bytes) refl are ok finds

none_by : (bytes : List ℕ) (fault : WireFault) (numbers : List ℕ) → numbers_of bytes ≡ numbers
    → AreHeld bytes → Finds bytes (Err fault) → numbers ≡ []
none_by bytes fault [] is are finds = refl
none_by bytes fault (n ∷ ns) is are finds =
    let wrong = (found_first n ns bytes (Err fault) is are finds).1 in
    cc

pub is_none : (bytes : List ℕ) (fault : WireFault) → AreHeld bytes → Finds bytes (Err fault)
    → numbers_of bytes ≡ []
is_none bytes fault are finds = none_by bytes fault (numbers_of bytes) refl are finds

-- ---- more at the end

pub nothing_held : (bytes : List ℕ) → bytes ≡ [] → AreHeld bytes × (held_by bytes ≡ [])
nothing_held bytes is =
    (subst AreHeld (sym is) (all_held [] tt), ap held_by is ∙ ap (map reply_of) none_held)

pub one_held : (n : ℕ) → IsNumber n
    → AreHeld (varint_spelling n) × (held_by (varint_spelling n) ≡ reply_of n ∷ [])
one_held n fits =
    let alone : flat_map varint_spelling (n ∷ []) ≡ varint_spelling n =
    append-nil (varint_spelling n) in (
      subst AreHeld alone (all_held (n ∷ []) (fits, tt)),
      ap held_by (sym alone) ∙ ap (map reply_of) (read_again (n ∷ []) (fits, tt)),
    )

pub record StillHeld (passed : ℕ) (old new more : List ℕ) : Type 0 where
  pub within : passed ≤ length new
  pub held : AreHeld (drop passed new)
  pub replies : held_by (drop passed new) ≡ held_by (drop passed old) ++ held_by more

pub more_held : (passed : ℕ) (old new more : List ℕ) → new ≡ old ++ more
    → (passed ≤ length old) × AreHeld (drop passed old) → AreHeld more
    → StillHeld passed old new more
more_held passed old new more is before are =
    let behind : drop passed new ≡ drop passed old ++ more =
    ap (drop passed) is ∙ drop-append-le passed old more before.0 in
    record {
      within = omega (arith, ap length is, length-append old more, before.0);
      held = subst AreHeld (sym behind) (held_append (drop passed old) more before.1 are);
      replies =
          ap held_by behind ∙ ap (map reply_of) (numbers_append (drop passed old) more before.1)
          ∙ map-append reply_of (numbers_of (drop passed old)) (numbers_of more);
    }

-- ---- the number of a reply

pub zeros_at : (n : ℕ) → n < 4294967296 → reply_of n ≡ Zeros n
unfolding reply_of
zeros_at n low = rw (lt-ltb n 4294967296 low) refl

pub sum_at : (n k : ℕ) → n ≡ 4294967296 + k → k < 4294967296 → reply_of n ≡ Sum (cast_signed w32 k)
unfolding reply_of
sum_at n k is low =
    let high : 4294967296 ≤ n = omega arith in
    let below : n < 8589934592 = omega arith in
    let rest : n - 4294967296 ≡ k = omega arith in
    rw (le-ltb n 4294967296 high, lt-ltb n 8589934592 below)
    (ap (λ (m : ℕ). Sum (cast_signed w32 m)) rest)

pub empty_at : (n : ℕ) → n ≡ 8589934592 → reply_of n ≡ Empty
unfolding reply_of
empty_at n is = subst (λ (m : ℕ). reply_of m ≡ Empty) (sym is) refl

pub sum_held : (value : ℤ) (n bits : ℕ) → FitsSigned w32 value → bits ≡ cast_unsigned w32 value
    → n ≡ 4294967296 + bits → reply_of n ≡ Sum value
sum_held value n bits fits is at =
    let low : bits < 4294967296 = omega (arith, ints) in
    sum_at n bits at low ∙ ap (λ (m : ℕ). Sum (cast_signed w32 m)) is
    ∙ ap (λ (z : ℤ). Sum z) (to_z-of_z w32 value fits)
