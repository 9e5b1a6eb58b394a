-- Balances that all fit a size, and what a new one, another one and one less leave of that.
use Rattle.std.proofs.Common.{
  ◌≡◌,
  ℕ,
  ◌-◌,
  ◌<◌,
  ◌≤◌,
  ℤ,
  pos,
  ◌+ℤ◌,
  ◌≤ℤ◌,
  true,
  false,
  true≢false,
  sym,
  ◌∙◌,
  refl,
  List,
  [],
  ◌∷◌,
  ◌++◌,
  arith,
  ap,
  subst,
  Option,
  None,
  is_some,
  zero,
  suc,
}
use Rattle.std.specs.Prelude.{
  int_le,
  All,
  nat_eq,
  negsuc,
  ◌-ℤ◌,
  ◌^◌,
  Some,
  IfSome,
  Result,
  Ok,
  Err,
  OnErr,
}
use Rattle.std.specs.List.{list_all, IsDistinct}
use Rattle.std.specs.Map.{values_of, keys_of, set_value, remove_entry, lookup}
use Rattle.std.proofs.lemmas.Cmp.{nat_eq_equiv}
use Rattle.std.proofs.lemmas.Int.{ints}
use Rattle.std.proofs.lemmas.List.Elements.{All-weaker, All-push}
use Rattle.std.proofs.lemmas.List.Sums.{AllPass-from_list_all, list_all-from_AllPass}
use Rattle.std.proofs.lemmas.Map.Views.{
  All-values-set_value,
  All-map-remove_entry,
  All-values_from_lookup,
  IfSome-lookup_from_All,
}
use Rattle.limits.proofs.Entries.{apart-set}
use Rattle.sendwindows.specs.Windows.{
  Windows,
  SharedWindow,
  balance,
  IsBalance,
  IsWithin,
  Fits,
  FitsAt,
  lesser,
}

pub all_fit : (n : ℕ) (bs : List ℤ) → list_all (λ b. int_le (pos n +ℤ b) (pos 2147483647)) bs ≡ true
    → All (λ b. Fits (pos n +ℤ b)) bs
all_fit n bs h =
    All-weaker (λ b. int_le (pos n +ℤ b) (pos 2147483647) ≡ true) (λ b. Fits (pos n +ℤ b))
    (λ b p. grind (arith, ints)) bs
    (AllPass-from_list_all (λ b. int_le (pos n +ℤ b) (pos 2147483647)) bs h)

pub some_over : (n : ℕ) (bs : List ℤ)
    → list_all (λ b. int_le (pos n +ℤ b) (pos 2147483647)) bs ≡ false
    → All (λ b. Fits (pos n +ℤ b)) bs → ⊥
some_over n bs over fit =
    true≢false (sym (list_all-from_AllPass (λ b. int_le (pos n +ℤ b) (pos 2147483647)) bs
    (All-weaker (λ b. Fits (pos n +ℤ b)) (λ b. int_le (pos n +ℤ b) (pos 2147483647) ≡ true)
    (λ b p. grind (arith, ints)) bs fit))
    ∙ over)

pub values-push : (es : List (ℕ × ℤ)) (id : ℕ) (b : ℤ)
    → values_of (es ++ (id, b) ∷ []) ≡ values_of es ++ b ∷ []
values-push [] id b = refl
values-push (e ∷ es) id b = ap (λ vs. e.1 ∷ vs) (values-push es id b)

pub all-push : (P : ℤ → Type 0) (es : List (ℕ × ℤ)) (id : ℕ) (b : ℤ) → All P (values_of es) → P b
    → All P (values_of (es ++ (id, b) ∷ []))
all-push P es id b each here =
    subst (All P) (sym (values-push es id b)) (All-push P (values_of es) b each here)

pub all-remove : (P : ℤ → Type 0) (es : List (ℕ × ℤ)) (id : ℕ) → All P (values_of es)
    → All P (values_of (remove_entry (nat_eq id) es))
all-remove P es id each = All-map-remove_entry (nat_eq id) (λ e. e.1) P es each

-- the balance of an open stream
found : (es : List (ℕ × ℤ)) (id initial : ℕ) (balance : ℤ) → All (IsBalance initial) (values_of es)
    → lookup (nat_eq id) es ≡ Some balance → IsBalance initial balance
found es id initial balance each at =
    subst (λ o. IfSome o (IsBalance initial)) at
    (IfSome-lookup_from_All (IsBalance initial) (nat_eq id) es each)

-- another balance of one stream
set_keeps : (es after : List (ℕ × ℤ)) (id connection kept initial : ℕ) (b next : ℤ)
    → IsWithin connection initial es → lookup (nat_eq id) es ≡ Some b
    → after ≡ set_value (nat_eq id) es next → kept ≤ connection → IsBalance initial next
    → IsWithin kept initial after
set_keeps es after id connection kept initial b next within at written less here = record {
  connection_fits = omega (arith, less, within.connection_fits);
  initial_fits = within.initial_fits;
  each =
      subst (λ l. All (IsBalance initial) (values_of l)) (sym written)
      (All-values-set_value (nat_eq id) (IsBalance initial) es next within.each here);
  apart = apart-set id b next es after at written within.apart;
}

pub credit_keeps : (es after : List (ℕ × ℤ)) (id connection initial n : ℕ) (b next : ℤ)
    → IsWithin connection initial es → lookup (nat_eq id) es ≡ Some b
    → after ≡ set_value (nat_eq id) es next → next ≡ b +ℤ pos n → Fits ((pos initial +ℤ b) +ℤ pos n)
    → IsWithin connection initial after
credit_keeps es after id connection initial n b next within at written raised fits =
    let old : IsBalance initial b = found es id initial b within.each at in
    let high : Fits (pos initial +ℤ next) = omega (arith, ints, raised, fits) in
    let low : negsuc (2 ^ 31) ≤ℤ next = omega (arith, ints, raised, old.1) in
    set_keeps es after id connection connection initial b next within at written
    (omega arith) (high, low)

spent_from : (connection initial len : ℕ) (balance z : ℤ) → pos initial +ℤ balance ≡ z
    → len ≤ lesser connection z
    → initial ≤ 2147483647 → IsBalance initial balance → IsBalance initial (balance -ℤ pos len)
spent_from connection initial len balance (pos n) e within size old =
    let high : (pos initial +ℤ (balance -ℤ pos len)) ≤ℤ pos 2147483647 =
    omega (arith, ints, e, within, old.0) in
    let low : negsuc (2 ^ 31) ≤ℤ (balance -ℤ pos len) = omega (arith, ints, e, within, size) in
    (high, low)
spent_from connection initial len balance (negsuc n) e within size old =
    let high : (pos initial +ℤ (balance -ℤ pos len)) ≤ℤ pos 2147483647 =
    omega (arith, ints, e, within, old.0) in
    let low : negsuc (2 ^ 31) ≤ℤ (balance -ℤ pos len) = omega (arith, ints, e, within, old.1) in
    (high, low)

-- what both windows let through is taken out of them
pub spend_keeps : (es after : List (ℕ × ℤ)) (id n : ℕ) (shared left : SharedWindow) (b next : ℤ)
    → IsWithin shared.connection shared.initial es → lookup (nat_eq id) es ≡ Some b
    → after ≡ set_value (nat_eq id) es next
    → left ≡ record { connection = shared.connection - n; initial = shared.initial }
    → next ≡ b -ℤ pos n
    → n ≤ lesser shared.connection (pos shared.initial +ℤ b)
    → IsWithin left.connection left.initial after
spend_keeps es after id n shared left b next within at written is lowered room =
    let new =
    spent_from shared.connection shared.initial n b (pos shared.initial +ℤ b) refl room
    within.initial_fits (found es id shared.initial b within.each at) in
    subst (λ (s : SharedWindow). IsWithin s.connection s.initial after) (sym is)
    (set_keeps es after id shared.connection (shared.connection - n) shared.initial b next within at
    written (omega arith) (subst (IsBalance shared.initial) (sym lowered) new))

-- ---- the balances that stand under numbers

none_there : (P : ℤ → Type 0) (o : Option ℤ) → is_some o ≡ false → IfSome o P
none_there P None e = tt
none_there P (Some b) e = cc

pub FitsAt-looked_up : (w : Windows) (n : ℕ) → FitsAt w n → (id : ℕ) → 0 < id
    → IfSome (balance w id) (λ b. Fits (pos n +ℤ b))
FitsAt-looked_up w n fits id there =
    IfSome-lookup_from_All (λ b. Fits (pos n +ℤ b)) (nat_eq id) w.balances fits.1

pub looked_up-FitsAt : (w : Windows) (n : ℕ) → IsDistinct nat_eq (keys_of w.balances)
    → is_some (balance w 0) ≡ false → n ≤ 2147483647
    → ((id : ℕ) → 0 < id → IfSome (balance w id) (λ b. Fits (pos n +ℤ b))) → FitsAt w n
looked_up-FitsAt w n unique apart low fits =
    (low, All-values_from_lookup nat_eq_equiv (λ b. Fits (pos n +ℤ b)) w.balances unique at)
  where
    at : (id : ℕ) → IfSome (lookup (nat_eq id) w.balances) (λ b. Fits (pos n +ℤ b))
    at zero = none_there (λ b. Fits (pos n +ℤ b)) (balance w 0) apart
    at (suc id) = fits (suc id) (omega arith)

-- ---- an error that changes nothing

pub on-err : {T E : Type 0} (result : Result T E) (P : Type 0) → P → OnErr result P
on-err (Ok value) P p = tt
on-err (Err fault) P p = p
