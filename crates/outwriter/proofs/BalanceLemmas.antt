-- The windows that the balances of the entries make, by look-ups, and what follows of their
-- histories.
use Rattle.std.proofs.Common.{
  ◌≡◌,
  ℕ,
  zero,
  suc,
  ◌<◌,
  ◌≤◌,
  ℤ,
  pos,
  negsuc,
  ◌+ℤ◌,
  Bool,
  true,
  false,
  cond,
  refl,
  sym,
  ap,
  subst,
  ◌∙◌,
  inl,
  inr,
  true≢false,
  List,
  [],
  ◌∷◌,
  ◌++◌,
  length,
  Option,
  Some,
  None,
  is_some,
  arith,
  nat_eq,
}
use Rattle.std.specs.Prelude.{
  ◌-ℤ◌,
  ◌<ℤ◌,
  if◌then◌else◌,
  not,
  nat_lt,
  IfSome,
  MatchOption,
  OnErr,
  OnOk,
  Result,
  Ok,
  Err,
}
use Rattle.std.specs.List.{list_all, IsDistinct}
use Rattle.std.specs.Map.{keys_of, lookup, set_value, values_of}
use Rattle.std.specs.Option.{option_map}
use Rattle.std.proofs.lemmas.Bool.{eqb-true, eq-eqb, ne_eqb}
use Rattle.std.proofs.lemmas.Bool.Decides.{nat_tests}
use Rattle.std.proofs.lemmas.Cmp.{nat_eq_equiv}
use Rattle.std.proofs.lemmas.Int.{ints}
use Rattle.std.proofs.lemmas.List.Sums.{AllPass-from_list_all, list_all-from_AllPass}
use Rattle.std.proofs.lemmas.Map.Entries.{lookup-filter-keys}
use Rattle.std.proofs.lemmas.Map.Views.{All-values_from_lookup, IfSome-lookup_from_All}
use Rattle.limits.specs.declared.TheConstants.{MAX_WINDOW}
use Rattle.sendwindows.specs.declared.send_windows.WindowFault.{WindowFault}
use Rattle.sendwindows.specs.declared.send_windows.WindowFault.TheVariants.{
  Overflow,
  NoRoom,
  Unknown,
  OutOfMemory,
}
use Rattle.sendwindows.specs.WindowHistory.{
  CanCredit,
  CanResize,
  Closing,
  Credit,
  Follows,
  Opening,
  Spending,
  room_after,
}
use Rattle.sendwindows.specs.WindowHistory.{Step as WindowStep}
use Rattle.sendwindows.specs.Windows.{
  CreditFault,
  Fits,
  Meets,
  SharedWindow,
  Windows,
  balance,
  lesser,
  room,
}
use Rattle.sendwindows.proofs.WindowSteps.{
  CanCredit-stream,
  CanResize-fits,
  Follows-closing,
  Follows-credit,
  Follows-opening,
  Follows-same,
  Follows-spending,
  cannot-credit-closed,
  cannot-credit-stream,
  fits-CanResize,
  room-open,
}
use Rattle.outwriter.specs.declared.states.Stream.{Stream}
use Rattle.outwriter.specs.declared.stream.NextData.{NextData}
use Rattle.outwriter.specs.declared.stream.NextData.TheVariants as looked
use Rattle.outwriter.specs.Data.{CutsData, Spends, TakesData}
use Rattle.outwriter.specs.Resizes.{FitsOn}
use Rattle.outwriter.specs.RunState.{spent}
use Rattle.outwriter.specs.States.{
  CreditsStream,
  PutsEntry,
  balance_first,
  balance_in,
  balances_of,
  fits_with,
  room_in,
  windows_of,
}

abbrev Entry : Type 0
Entry = ℕ × Stream

-- ---- look-ups

pub flip : (a b : ℕ) → nat_eq a b ≡ nat_eq b a
flip a b = by (nat_eq a b) (nat_eq b a) refl refl
  where
    by : (x y : Bool) → nat_eq a b ≡ x → nat_eq b a ≡ y → x ≡ y
    by true true p q = refl
    by false false p q = refl
    by true false p q = absurd (true≢false (sym (eq-eqb b a (sym (eqb-true a b p))) ∙ q))
    by false true p q = absurd (true≢false (sym (eq-eqb a b (sym (eqb-true b a q))) ∙ p))

pub found-balance : (shared : SharedWindow) (es : List Entry) (id : ℕ)
    → balance (windows_of shared es) id ≡ balance_in (lookup (nat_eq id) es)
found-balance shared [] id = refl
found-balance shared (e ∷ es) id =
    by e.1.balance (nat_eq id e.0) refl refl (found-balance shared es id)
  where
    by : (b : Option ℤ) (t : Bool) → e.1.balance ≡ b → nat_eq id e.0 ≡ t
        → lookup (nat_eq id) (balances_of es) ≡ balance_in (lookup (nat_eq id) es)
        → lookup (nat_eq id) (balance_first e.0 b (balances_of es))
        ≡ balance_in (cond t (Some e.1) (lookup (nat_eq id) es))
    by (Some z) true q p rest =
        ap (λ t. cond t (Some z) (lookup (nat_eq id) (balances_of es))) p ∙ sym q
    by (Some z) false q p rest =
        ap (λ t. cond t (Some z) (lookup (nat_eq id) (balances_of es))) p ∙ rest
    by None true q p rest =
        lookup-filter-keys (nat_eq id) (λ k. not (nat_eq e.0 k)) false
        (λ k t. ap not (eq-eqb e.0 k (sym (eqb-true id e.0 p) ∙ eqb-true id k t))) (balances_of es)
        ∙ sym q
    by None false q p rest =
        lookup-filter-keys (nat_eq id) (λ k. not (nat_eq e.0 k)) true
        (λ k t.
        ap not (ne_eqb e.0 k
        (λ same. true≢false (sym (eq-eqb id e.0 (eqb-true id k t ∙ sym same)) ∙ p))))
        (balances_of es)
        ∙ rest

-- the windows stay, where a balance is written that was there
pub same-balances : (es : List Entry) (id : ℕ) (w was : Stream) → lookup (nat_eq id) es ≡ Some was
    → w.balance ≡ was.balance → balances_of (set_value (nat_eq id) es w) ≡ balances_of es
same-balances [] id w was found same = refl
same-balances (e ∷ es) id w was found same =
    by (λ h. same-balances es id w was h same) (nat_eq id e.0) found
  where
    some-is : (a b : Stream) → Some a ≡ Some b → a ≡ b
    some-is a b q = cc

    by :
        (lookup (nat_eq id) es ≡ Some was
        → balances_of (set_value (nat_eq id) es w) ≡ balances_of es)
        → (b : Bool) → cond b (Some e.1) (lookup (nat_eq id) es) ≡ Some was
        → balances_of (cond b ((e.0, w) ∷ es) (e ∷ set_value (nat_eq id) es w))
        ≡ balance_first e.0 e.1.balance (balances_of es)
    by rest true at =
        ap (λ (b : Option ℤ). balance_first e.0 b (balances_of es))
        (same ∙ ap (λ (x : Stream). x.balance) (sym (some-is e.1 was at)))
    by rest false at = ap (λ (l : List (ℕ × ℤ)). balance_first e.0 e.1.balance l) (rest at)

-- one stream changes, with what all windows share
pub balance-puts : (from to : SharedWindow) (es : List Entry) (id : ℕ) (w : Stream)
    (new : List Entry)
    → PutsEntry es id w new
    → (k : ℕ)
    → balance (windows_of to new) k
    ≡ (if nat_eq k id then w.balance else balance (windows_of from es) k)
balance-puts from to es id w new puts k =
    found-balance to new k ∙ ap balance_in (puts k) ∙ by (nat_eq id k)
    ∙ ap (λ t. if t then w.balance else balance (windows_of from es) k) (flip id k)
  where
    by : (b : Bool)
        → balance_in (if b then Some w else lookup (nat_eq k) es)
        ≡ (if b then w.balance else balance (windows_of from es) k)
    by true = refl
    by false = sym (found-balance from es k)

-- ---- steps of their history

module _ (shared : SharedWindow) (es : List Entry) (id : ℕ) (w : Stream) (new : List Entry)
    (puts : PutsEntry es id w new) where
  sets : (kept : Option ℤ) → w.balance ≡ kept → (other : ℕ) → 0 < other
      → balance (windows_of shared new) other
      ≡ (if nat_eq other id then kept else balance (windows_of shared es) other)
  sets kept is other there =
      balance-puts shared shared es id w new puts other
      ∙ ap (λ b. if nat_eq other id then b else balance (windows_of shared es) other) is

  pub put-closes : w.balance ≡ None → (h : List WindowStep) → Follows h (windows_of shared es)
      → Follows (Closing id ∷ h) (windows_of shared new)
  put-closes none h f =
      Follows-closing h (windows_of shared es) f (windows_of shared new) id
      (sets None none) refl refl

  pub put-opens : w.balance ≡ Some (pos 0) → (h : List WindowStep)
      → Follows h (windows_of shared es) → Follows (Opening id ∷ h) (windows_of shared new)
  put-opens some h f =
      Follows-opening h (windows_of shared es) f (windows_of shared new) id
      (sets (Some (pos 0)) some) refl refl

  pub put-credits : (n : ℕ) (b : ℤ) → 0 < id → balance (windows_of shared es) id ≡ Some b
      → w.balance ≡ Some (b +ℤ pos n)
      → (h : List WindowStep) → Follows h (windows_of shared es)
      → Follows (Credit id n ∷ h) (windows_of shared new)
  put-credits n b positive some is h f =
      Follows-credit h (windows_of shared es) f (windows_of shared new) id n b (b +ℤ pos n) positive
      some refl (sets (Some (b +ℤ pos n)) is) refl refl

  pub put-stays : w.balance ≡ balance_in (lookup (nat_eq id) es) → (h : List WindowStep)
      → Follows h (windows_of shared es) → Follows h (windows_of shared new)
  put-stays same h f = Follows-same h (windows_of shared es) f (windows_of shared new)
      (λ other there.
      balance-puts shared shared es id w new puts other ∙ by other (nat_eq other id) refl) refl refl
    where
      by : (other : ℕ) (b : Bool) → nat_eq other id ≡ b
          → (if b then w.balance else balance (windows_of shared es) other)
          ≡ balance (windows_of shared es) other
      by other true p =
          same ∙ ap (λ n. balance_in (lookup (nat_eq n) es)) (sym (eqb-true other id p))
          ∙ sym (found-balance shared es other)
      by other false p = refl

-- a stream that isn't there has no window
pub none-closes : (shared : SharedWindow) (es : List Entry) (id : ℕ) → lookup (nat_eq id) es ≡ None
    → (h : List WindowStep) → Follows h (windows_of shared es)
    → Follows (Closing id ∷ h) (windows_of shared es)
none-closes shared es id none h f =
    Follows-closing h (windows_of shared es) f (windows_of shared es) id
    (λ other there. by other (nat_eq other id) refl) refl refl
  where
    by : (other : ℕ) (b : Bool) → nat_eq other id ≡ b
        → balance (windows_of shared es) other
        ≡ (if b then None else balance (windows_of shared es) other)
    by other true p =
        found-balance shared es other
        ∙ ap (λ n. balance_in (lookup (nat_eq n) es)) (eqb-true other id p) ∙ ap balance_in none
    by other false p = refl

-- the entries that are found are the same
pub found-stays : (shared : SharedWindow) (es new : List Entry)
    → ((k : ℕ) → lookup (nat_eq k) new ≡ lookup (nat_eq k) es)
    → (h : List WindowStep) → Follows h (windows_of shared es) → Follows h (windows_of shared new)
found-stays shared es new same h f = Follows-same h (windows_of shared es) f (windows_of shared new)
    (λ other there.
    found-balance shared new other ∙ ap balance_in (same other)
    ∙ sym (found-balance shared es other)) refl refl

-- ---- credit

abbrev pub Credited : Windows → Windows → ℕ → ℕ → Result (Unit {0}) WindowFault → Type 0
Credited old new id n answer = Meets (CreditFault old id n) answer
    × OnOk answer ((h : List WindowStep) → Follows h old → Follows (Credit id n ∷ h) new)
    × OnOk answer ((h : List WindowStep) → Follows h old → CanCredit h id n)
    × OnErr answer ((h : List WindowStep) → Follows h old → ¬ CanCredit h id n)

pub credit-none : (shared : SharedWindow) (es new : List Entry) (id n : ℕ)
    (answer : Result (Unit {0}) WindowFault)
    → 0 < id → lookup (nat_eq id) es ≡ None → answer ≡ Err Unknown
    → Credited (windows_of shared es) (windows_of shared new) id n answer
credit-none shared es new id n answer there none is =
    let closed : balance (windows_of shared es) id ≡ None =
    found-balance shared es id ∙ ap balance_in none in
    subst (Credited (windows_of shared es) (windows_of shared new) id n) (sym is) (
      (there, ap (option_map (λ b. pos shared.initial +ℤ b)) closed),
      tt,
      tt,
      λ h f. cannot-credit-closed h (windows_of shared es) f id n there closed,
    )

pub credit-some : (shared : SharedWindow) (es new : List Entry) (id n : ℕ) (was now : Stream)
    (answer : Result (Unit {0}) WindowFault)
    → 0 < id → lookup (nat_eq id) es ≡ Some was
    → PutsEntry es id now new → CreditsStream shared was.balance now.balance n answer
    → Credited (windows_of shared es) (windows_of shared new) id n answer
credit-some shared es new id n was now answer there found puts credits =
    by was.balance refl answer credits
  where
    here : (o : Option ℤ) → was.balance ≡ o → balance (windows_of shared es) id ≡ o
    here o e = found-balance shared es id ∙ ap balance_in found ∙ e

    match : (b : ℤ) (P : ℤ → Type 0) → was.balance ≡ Some b → P (pos shared.initial +ℤ b)
        → MatchOption
        (option_map (λ z. pos shared.initial +ℤ z) (balance (windows_of shared es) id)) ⊥ P
    match b P e h =
        subst (λ (o : Option ℤ). MatchOption (option_map (λ z. pos shared.initial +ℤ z) o) ⊥ P)
        (sym (here (Some b) e)) h

    none : (b : ℤ) → was.balance ≡ Some b → Fits ((pos shared.initial +ℤ b) +ℤ pos n)
        → (f : WindowFault) → ¬ CreditFault (windows_of shared es) id n f
    none b e low Overflow (inl (zero_is, high)) = let no : ⊥ = omega (arith, there, zero_is) in no
    none b e low Overflow (inr (positive, high)) =
        let over : pos MAX_WINDOW <ℤ ((pos shared.initial +ℤ b) +ℤ pos n) =
        subst (λ (o : Option ℤ).
        MatchOption (option_map (λ z. pos shared.initial +ℤ z) o) ⊥
        (λ size. pos MAX_WINDOW <ℤ (size +ℤ pos n))) (here (Some b) e) high in
        let no : ⊥ = omega (arith, ints, low, over) in no
    none b e low Unknown (positive, closed) =
        let no : Some (pos shared.initial +ℤ b) ≡ None =
        sym (ap (option_map (λ z. pos shared.initial +ℤ z)) (here (Some b) e)) ∙ closed in
        cc
    none b e low NoRoom stands = stands
    none b e low OutOfMemory stands = stands

    by : (o : Option ℤ) → was.balance ≡ o → (r : Result (Unit {0}) WindowFault)
        → CreditsStream shared o now.balance n r
        → Credited (windows_of shared es) (windows_of shared new) id n r
    by None e r credits =
        subst (Credited (windows_of shared es) (windows_of shared new) id n) (sym credits.1) (
          (there, ap (option_map (λ b. pos shared.initial +ℤ b)) (here None e)),
          tt,
          tt,
          λ h f. cannot-credit-closed h (windows_of shared es) f id n there (here None e),
        )
    by (Some b) e (Ok done) credits = (
      none b e credits.1,
      put-credits shared es id now new puts n b there (here (Some b) e) credits.0,
      λ h f. CanCredit-stream h (windows_of shared es) f id n b there (here (Some b) e) credits.1,
      tt,
    )
    by (Some b) e (Err fault) credits = (
      subst (CreditFault (windows_of shared es) id n) (sym credits.1)
          (inr (there, match b (λ size. pos MAX_WINDOW <ℤ (size +ℤ pos n)) e credits.2)),
      tt,
      tt,
      λ h f.
          cannot-credit-stream h (windows_of shared es) f id n b there (here (Some b) e) credits.2,
    )

-- ---- another initial size

fits-is : (size : ℕ) (o : Option ℤ) → fits_with size o ≡ true → IfSome o (λ b. Fits (pos size +ℤ b))
fits-is size None e = tt
fits-is size (Some b) e = grind (arith, ints)

fits-test : (size : ℕ) (o : Option ℤ) → IfSome o (λ b. Fits (pos size +ℤ b))
    → fits_with size o ≡ true
fits-test size None e = refl
fits-test size (Some b) e = grind (arith, ints)

pub all-fit : (shared : SharedWindow) (es : List Entry) (size : ℕ) → size ≤ MAX_WINDOW
    → list_all (λ (s : Stream). fits_with size s.balance) (values_of es) ≡ true
    → FitsOn (windows_of shared es) size
all-fit shared es size low all = (
  low,
  λ id there.
      subst (λ (o : Option ℤ). IfSome o (λ b. Fits (pos size +ℤ b)))
      (sym (found-balance shared es id)) (by (lookup (nat_eq id) es) (each id)),
)
  where
    each : (id : ℕ) → IfSome (lookup (nat_eq id) es) (λ s. fits_with size s.balance ≡ true)
    each id =
        IfSome-lookup_from_All (λ (s : Stream). fits_with size s.balance ≡ true) (nat_eq id) es
        (AllPass-from_list_all (λ (s : Stream). fits_with size s.balance) (values_of es) all)

    by : (o : Option Stream) → IfSome o (λ s. fits_with size s.balance ≡ true)
        → IfSome (balance_in o) (λ b. Fits (pos size +ℤ b))
    by None h = tt
    by (Some s) h = fits-is size s.balance h

pub some-over : (shared : SharedWindow) (es : List Entry) (size : ℕ)
    → IsDistinct nat_eq (keys_of es)
    → is_some (lookup (nat_eq 0) es) ≡ false
    → list_all (λ (s : Stream). fits_with size s.balance) (values_of es) ≡ false
    → ¬ FitsOn (windows_of shared es) size
some-over shared es size unique apart over (low, fits) =
    true≢false (sym (list_all-from_AllPass (λ (s : Stream). fits_with size s.balance) (values_of es)
    (All-values_from_lookup nat_eq_equiv
    (λ (s : Stream). fits_with size s.balance ≡ true) es unique at))
    ∙ over)
  where
    by : (o : Option Stream) → IfSome (balance_in o) (λ b. Fits (pos size +ℤ b))
        → IfSome o (λ s. fits_with size s.balance ≡ true)
    by None h = tt
    by (Some s) h = fits-test size s.balance h

    none : (o : Option Stream) → is_some o ≡ false → IfSome o (λ s. fits_with size s.balance ≡ true)
    none None e = tt
    none (Some s) e = absurd (true≢false e)

    at : (id : ℕ) → IfSome (lookup (nat_eq id) es) (λ s. fits_with size s.balance ≡ true)
    at zero = none (lookup (nat_eq 0) es) apart
    at (suc id) =
        by (lookup (nat_eq (suc id)) es) (subst
        (λ (o : Option ℤ). IfSome o (λ b. Fits (pos size +ℤ b))) (found-balance shared es (suc id))
        (fits (suc id) (omega arith)))

pub can-resize : (w : Windows) (size : ℕ) → FitsOn w size → (h : List WindowStep) → Follows h w
    → CanResize h size
can-resize w size fits h f = CanResize-fits h w f size fits.0 fits.1

pub cannot-resize : (w : Windows) (size : ℕ) → ¬ FitsOn w size → (h : List WindowStep) → Follows h w
    → ¬ CanResize h size
cannot-resize w size over h f can = over (can.0, fits-CanResize h w f size can)

-- ---- DATA

pub spent-some : (id len : ℕ) (windows : Windows) (history : List WindowStep) → 0 < len
    → Follows (Spending id len ∷ history) windows → Follows (spent id len ++ history) windows
spent-some id len windows history some follows =
    let is : nat_lt 0 len ≡ true = grind (arith, nat_tests) in
    subst (λ (b : Bool). Follows ((if b then Spending id len ∷ [] else []) ++ history) windows)
    (sym is) follows

lesser-below : (connection n : ℕ) (size : ℤ) → n ≤ lesser connection size → n ≤ connection
lesser-below connection n (pos m) below = omega (arith, below)
lesser-below connection n (negsuc m) below = omega (arith, below)

-- nothing is taken
pub spends-none : (from to : SharedWindow) (was now : Option ℤ) (n : ℕ) → n ≡ 0
    → Spends from to was now n
    → (to ≡ from) × (now ≡ was)
spends-none from to None now n none spends = (spends.1, spends.2)
spends-none from to (Some b) now n none spends = (
  spends.1
      ∙ ap (λ c. let s : SharedWindow = record { connection = c; initial = from.initial } in s)
      (omega (arith, none)),
  spends.2 ∙ ap Some (omega (arith, ints, none)),
)

module _ (from to : SharedWindow) (es : List Entry) (id : ℕ) (was now : Stream) (new : List Entry)
    (message rest : List ℕ) (found : lookup (nat_eq id) es ≡ Some was)
    (is : new ≡ set_value (nat_eq id) es now) (puts : PutsEntry es id now new) where
  here : balance (windows_of from es) id ≡ was.balance
  here = found-balance from es id ∙ ap balance_in found

  same : to ≡ from → now.balance ≡ was.balance → windows_of to new ≡ windows_of from es
  same shared kept = ap (λ (s : SharedWindow). windows_of s new) shared
      ∙ ap (λ (l : List (ℕ × ℤ)).
      let w : Windows = record {
        connection = from.connection;
        initial = from.initial;
        balances = l;
      } in w)
      (ap balances_of is ∙ same-balances es id now was found kept)

  frame-cut : (front : List ℕ) (o : Option ℤ) → was.balance ≡ o → 0 < length front
      → Spends from to o now.balance (length front)
      → (0 < id → (h : List WindowStep) → Follows h (windows_of from es)
      → length front ≤ room_after h id)
      × ((h : List WindowStep) → Follows h (windows_of from es)
      → Follows (spent id (length front) ++ h) (windows_of to new))
  frame-cut front None e some spends = let no : ⊥ = omega (arith, some, spends.0) in absurd no
  frame-cut front (Some b) e some spends = (
    λ there h f.
        subst (λ n. length front ≤ n)
        (sym (room-open h (windows_of from es) f id b there (here ∙ e))) spends.0,
    λ h f. spent-some id (length front) (windows_of to new) h some
        (Follows-spending h (windows_of from es) f (windows_of to new) id (length front) b
        (b -ℤ pos (length front))
        (lesser-below from.connection (length front) (pos from.initial +ℤ b)
        spends.0) (here ∙ e) refl
        (λ other there.
        balance-puts from to es id now new puts other
        ∙ ap (λ o. if nat_eq other id then o else balance (windows_of from es) other) spends.2)
        (ap (λ (s : SharedWindow). s.connection) spends.1)
        (ap (λ (s : SharedWindow). s.initial) spends.1)),
  )

  pub data-view : (l : NextData) → CutsData id from to was.balance now.balance message rest l
      → TakesData id (windows_of from es) (windows_of to new) message rest l
  data-view (looked.Frame frame) cuts =
      let takes = frame-cut cuts.0 was.balance refl cuts.3 cuts.5 in
      (cuts.0, cuts.1, cuts.2, cuts.3, cuts.4, takes.0, takes.1)
  data-view looked.Nothing cuts = (cuts.0, same cuts.1 cuts.2, cuts.3, room-here cuts.4)
    where
      room-here : room_in from was.balance ≡ 0 → room (windows_of from es) id ≡ 0
      room-here none = ap (room_in from) here ∙ none
  data-view looked.Empty cuts = (cuts.0, same cuts.1 cuts.2, cuts.3)
