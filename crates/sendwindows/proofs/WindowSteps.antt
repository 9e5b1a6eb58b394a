-- Windows of which only look-ups are known, and one more step of their history. The balances of
-- `w2` are told by `balance w2 other`, for each other > 0, where one stream changes by `if nat_eq
-- other id then .. else balance w other`:
-- so they may lie in a table of any form.
use Rattle.std.proofs.Common.{
  ◌≡◌,
  ℕ,
  ◌+◌,
  ◌-◌,
  ◌<◌,
  ◌≤◌,
  ℤ,
  pos,
  negsuc,
  ◌+ℤ◌,
  Bool,
  true,
  false,
  refl,
  sym,
  ap,
  subst,
  ◌∙◌,
  List,
  [],
  ◌∷◌,
  Option,
  Some,
  None,
  arith,
  nat_eq,
  inl,
  inr,
}
use Rattle.std.specs.Prelude.{◌-ℤ◌, ◌<ℤ◌, if◌then◌else◌, min, sum_by, IfSome, MatchOption}
use Rattle.std.specs.Option.{option_map, option_map_or}
use Rattle.std.proofs.lemmas.Bool.{eqb-true, ne_eqb}
use Rattle.std.proofs.lemmas.Int.{ints}
use Rattle.std.proofs.lemmas.List.Sums.{sum_by-cons}
use Rattle.limits.proofs.Entries.{same_number}
use Rattle.limits.specs.declared.TheConstants.{INITIAL_WINDOW, MAX_WINDOW}
use Rattle.sendwindows.specs.Windows.{Windows, balance, window, room, lesser, lesser_if_open, Fits}
use Rattle.sendwindows.specs.WindowHistory.{
  Step,
  Opening,
  Credit,
  Spending,
  Resizing,
  Closing,
  credit_to,
  spending_on,
  spending,
  connection_window,
  initial_size,
  since_opening,
  balance_of,
  bytes_of,
  stream_window,
  room_after,
  Follows,
  CanCredit,
  CanResize,
}

-- ---- sums of one more step

if-other : (b : Bool) (n : ℕ) → b ≡ false → (if b then n else 0) ≡ 0
if-other true n e = cc
if-other false n e = refl

-- what goes to another stream counts for nothing
sum-other : (f : Step → ℕ) (step : Step) (steps : List Step) → f step ≡ 0
    → sum_by f (step ∷ steps) ≡ sum_by f steps
sum-other f step steps e = sum_by-cons f step steps ∙ ap (λ n. n + sum_by f steps) e ∙ omega arith

sum-more : (f : Step → ℕ) (step : Step) (steps : List Step) (n : ℕ) → f step ≡ n
    → sum_by f (step ∷ steps) ≡ n + sum_by f steps
sum-more f step steps n e = sum_by-cons f step steps ∙ ap (λ m. m + sum_by f steps) e

balance-other : (id : ℕ) (step : Step) (steps : List Step) → credit_to id step ≡ 0
    → spending_on id step ≡ 0 → balance_of id (step ∷ steps) ≡ balance_of id steps
balance-other id step steps c s =
    ap (λ n. pos n -ℤ pos (sum_by (spending_on id) (step ∷ steps)))
    (sum-other (credit_to id) step steps c)
    ∙ ap (λ n. pos (sum_by (credit_to id) steps) -ℤ pos n) (sum-other (spending_on id) step steps s)

balances-other : (id : ℕ) (step : Step) (since : Option (List Step)) → credit_to id step ≡ 0
    → spending_on id step ≡ 0
    → option_map (balance_of id) (option_map (λ steps. step ∷ steps) since)
    ≡ option_map (balance_of id) since
balances-other id step None c s = refl
balances-other id step (Some steps) c s = ap Some (balance-other id step steps c s)

credited : (id n : ℕ) (b next : ℤ) (since : Option (List Step)) → next ≡ b +ℤ pos n
    → Some b ≡ option_map (balance_of id) since
    → Some next ≡ option_map (balance_of id) (option_map (λ steps. Credit id n ∷ steps) since)
credited id n b next None raised e = cc
credited id n b next (Some steps) raised e =
    let is : b ≡ balance_of id steps = cc in
    let more =
    sum-more (credit_to id) (Credit id n) steps n (ap (λ t. if t then n else 0) (same_number id)) in
    let none = sum-other (spending_on id) (Credit id n) steps refl in
    ap Some (omega (arith, ints, raised, is, more, none))

spent : (id n : ℕ) (b next : ℤ) (since : Option (List Step)) → next ≡ b -ℤ pos n
    → Some b ≡ option_map (balance_of id) since
    → Some next ≡ option_map (balance_of id) (option_map (λ steps. Spending id n ∷ steps) since)
spent id n b next None lowered e = cc
spent id n b next (Some steps) lowered e =
    let is : b ≡ balance_of id steps = cc in
    let more =
    sum-more (spending_on id) (Spending id n) steps n
    (ap (λ t. if t then n else 0) (same_number id)) in
    let none = sum-other (credit_to id) (Spending id n) steps refl in
    ap Some (omega (arith, ints, lowered, is, more, none))

connection-other : (step : Step) (h : List Step) → credit_to 0 step ≡ 0 → spending step ≡ 0
    → connection_window (step ∷ h) ≡ connection_window h
connection-other step h c s =
    ap (λ n. (pos INITIAL_WINDOW +ℤ pos n) -ℤ pos (sum_by spending (step ∷ h)))
    (sum-other (credit_to 0) step h c)
    ∙ ap (λ n. (pos INITIAL_WINDOW +ℤ pos (sum_by (credit_to 0) h)) -ℤ pos n)
    (sum-other spending step h s)

moved : (id kept size : ℕ) (b : Option ℤ) (since : Option (List Step))
    → b ≡ option_map (balance_of id) since → kept ≡ size
    → option_map (λ z. pos kept +ℤ z) b
    ≡ option_map (λ steps. pos size +ℤ balance_of id steps) since
moved id kept size b None e f = ap (λ o. option_map (λ z. pos kept +ℤ z) o) e
moved id kept size b (Some steps) e f =
    ap (λ o. option_map (λ z. pos kept +ℤ z) o) e ∙ ap (λ n. Some (pos n +ℤ balance_of id steps)) f

lesser-bytes : (connection : ℕ) (shown : ℤ) (size : Option ℤ) → pos connection ≡ shown
    → lesser_if_open connection size ≡ option_map_or (λ s. min (bytes_of shown) (bytes_of s)) size 0
lesser-bytes connection shown None e = refl
lesser-bytes connection shown (Some (pos n)) e = ap (λ z. min (bytes_of z) n) e
lesser-bytes connection shown (Some (negsuc n)) e = omega arith

module _ (h : List Step) (w : Windows) (follows : Follows h w) where
  -- ---- what follows of a stream's window

  pub window-follows : (id : ℕ) → 0 < id → window w id ≡ stream_window id h
  window-follows id there =
      moved id w.initial (initial_size h) (balance w id) (since_opening id h)
      (follows.balances id there) follows.initial

  pub room-follows : (id : ℕ) → 0 < id → room_after h id ≡ room w id
  room-follows id there =
      sym (ap (λ o. lesser_if_open w.connection o) (window-follows id there)
      ∙ lesser-bytes w.connection (connection_window h) (stream_window id h) follows.connection)

  pub room-open : (id : ℕ) (b : ℤ) → 0 < id → balance w id ≡ Some b
      → room_after h id ≡ lesser w.connection (pos w.initial +ℤ b)
  room-open id b there some =
      room-follows id there
      ∙ ap (λ o. lesser_if_open w.connection (option_map (λ z. pos w.initial +ℤ z) o)) some

  -- ---- whether a credit can be

  pub CanCredit-connection : (n : ℕ) → w.connection + n ≤ MAX_WINDOW → CanCredit h 0 n
  CanCredit-connection n fits = inl (refl, omega (arith, ints, follows.connection, fits))

  pub cannot-credit-connection : (n : ℕ) → MAX_WINDOW < w.connection + n → ¬ CanCredit h 0 n
  cannot-credit-connection n over (inl (e, fits)) =
      omega (arith, ints, follows.connection, over, fits)
  cannot-credit-connection n over (inr (there, fits)) = omega (arith, there)

  fits-of : (id n : ℕ) → 0 < id → CanCredit h id n
      → MatchOption (window w id) ⊥ (λ size. Fits (size +ℤ pos n))
  fits-of id n there (inl (e, fits)) = absurd (omega (arith, there, e))
  fits-of id n there (inr (again, fits)) =
      subst (λ o. MatchOption o ⊥ (λ size. Fits (size +ℤ pos n)))
      (sym (window-follows id there)) fits

  pub CanCredit-stream : (id n : ℕ) (b : ℤ) → 0 < id → balance w id ≡ Some b
      → Fits ((pos w.initial +ℤ b) +ℤ pos n) → CanCredit h id n
  CanCredit-stream id n b there some fits =
      inr (
        there,
        subst (λ o. MatchOption o ⊥ (λ size. Fits (size +ℤ pos n)))
            (sym (ap (λ o. option_map (λ z. pos w.initial +ℤ z) o) some)
            ∙ window-follows id there) fits,
      )

  pub cannot-credit-stream : (id n : ℕ) (b : ℤ) → 0 < id → balance w id ≡ Some b
      → pos MAX_WINDOW <ℤ ((pos w.initial +ℤ b) +ℤ pos n) → ¬ CanCredit h id n
  cannot-credit-stream id n b there some over can =
      let fits : Fits ((pos w.initial +ℤ b) +ℤ pos n) =
      subst
      (λ o. MatchOption (option_map (λ z. pos w.initial +ℤ z) o) ⊥ (λ size. Fits (size +ℤ pos n)))
      some (fits-of id n there can) in
      omega (arith, ints, over, fits)

  pub cannot-credit-closed : (id n : ℕ) → 0 < id → balance w id ≡ None → ¬ CanCredit h id n
  cannot-credit-closed id n there none can =
      subst
      (λ o. MatchOption (option_map (λ z. pos w.initial +ℤ z) o) ⊥ (λ size. Fits (size +ℤ pos n)))
      none (fits-of id n there can)

  -- ---- whether a size can be

  pub CanResize-fits : (n : ℕ) → n ≤ MAX_WINDOW
      → ((id : ℕ) → 0 < id → IfSome (balance w id) (λ b. Fits (pos n +ℤ b))) → CanResize h n
  CanResize-fits n low fits = (
    low,
    λ id there.
        by id (since_opening id h) (subst (λ (o : Option ℤ). IfSome o (λ b. Fits (pos n +ℤ b)))
        (follows.balances id there) (fits id there)),
  )
    where
      by : (id : ℕ) (since : Option (List Step))
          → IfSome (option_map (balance_of id) since) (λ b. Fits (pos n +ℤ b))
          → IfSome since (λ steps. Fits (pos n +ℤ balance_of id steps))
      by id None fit = tt
      by id (Some steps) fit = fit

  pub fits-CanResize : (n : ℕ) → CanResize h n → (id : ℕ) → 0 < id
      → IfSome (balance w id) (λ b. Fits (pos n +ℤ b))
  fits-CanResize n can id there =
      subst (λ (o : Option ℤ). IfSome o (λ b. Fits (pos n +ℤ b))) (sym (follows.balances id there))
      (by (since_opening id h) (can.1 id there))
    where
      by : (since : Option (List Step))
          → IfSome since (λ steps. Fits (pos n +ℤ balance_of id steps))
          → IfSome (option_map (balance_of id) since) (λ b. Fits (pos n +ℤ b))
      by None fit = tt
      by (Some steps) fit = fit

  -- ---- each step

  -- another balance of one stream, or none
  balances-set : (step : Step) (id : ℕ) (set : Option ℤ) (w2 : Windows)
      → ((other : ℕ) → 0 < other
      → balance w2 other ≡ (if nat_eq other id then set else balance w other))
      → ((other : ℕ) → nat_eq other id ≡ true → 0 < other
      → set ≡ option_map (balance_of other) (since_opening other (step ∷ h)))
      → ((other : ℕ) → nat_eq other id ≡ false
      → option_map (balance_of other) (since_opening other (step ∷ h))
      ≡ option_map (balance_of other) (since_opening other h))
      → (other : ℕ) → 0 < other
      → balance w2 other ≡ option_map (balance_of other) (since_opening other (step ∷ h))
  balances-set step id set w2 sets here others other there =
      sets other there ∙ by (nat_eq other id) refl
    where
      by : (t : Bool) → nat_eq other id ≡ t
          → (if t then set else balance w other)
          ≡ option_map (balance_of other) (since_opening other (step ∷ h))
      by true p = here other p there
      by false p = follows.balances other there ∙ sym (others other p)

  module _ (w2 : Windows) where
    pub Follows-same : ((other : ℕ) → 0 < other → balance w2 other ≡ balance w other)
        → w2.connection ≡ w.connection → w2.initial ≡ w.initial → Follows h w2
    Follows-same same connection initial = record {
      connection = ap pos connection ∙ follows.connection;
      initial = initial ∙ follows.initial;
      balances = λ other there. same other there ∙ follows.balances other there;
    }

    pub Follows-opening : (id : ℕ)
        → ((other : ℕ) → 0 < other
        → balance w2 other ≡ (if nat_eq other id then Some (pos 0) else balance w other))
        → w2.connection ≡ w.connection → w2.initial ≡ w.initial → Follows (Opening id ∷ h) w2
    Follows-opening id sets connection initial = record {
      connection =
          ap pos connection ∙ follows.connection ∙ sym (connection-other (Opening id) h refl refl);
      initial = initial ∙ follows.initial;
      balances = balances-set (Opening id) id (Some (pos 0)) w2 sets
          (λ other p there.
          sym (ap
          (λ t. option_map (balance_of other) (if t then Some [] else since_opening other h)) p))
          (λ other p.
          ap (λ t. option_map (balance_of other) (if t then Some [] else since_opening other h)) p);
    }

    pub Follows-credit : (id n : ℕ) (b next : ℤ) → 0 < id → balance w id ≡ Some b
        → next ≡ b +ℤ pos n
        → ((other : ℕ) → 0 < other
        → balance w2 other ≡ (if nat_eq other id then Some next else balance w other))
        → w2.connection ≡ w.connection → w2.initial ≡ w.initial → Follows (Credit id n ∷ h) w2
    Follows-credit id n b next positive some raised sets connection initial = record {
      connection = ap pos connection ∙ follows.connection
          ∙ sym (connection-other (Credit id n) h
          (if-other (nat_eq 0 id) n (ne_eqb 0 id (λ e. omega (arith, e, positive)))) refl);
      initial = initial ∙ follows.initial;
      balances = balances-set (Credit id n) id (Some next) w2 sets
          (λ other p there.
          subst (λ k.
          Some next
          ≡ option_map (balance_of k)
          (option_map (λ steps. Credit id n ∷ steps) (since_opening k h)))
          (sym (eqb-true other id p))
          (credited id n b next (since_opening id h) raised
          (sym some ∙ follows.balances id positive)))
          (λ other p.
          balances-other other (Credit id n) (since_opening other h)
          (if-other (nat_eq other id) n p) refl);
    }

    pub Follows-credit-connection : (n : ℕ)
        → ((other : ℕ) → 0 < other → balance w2 other ≡ balance w other)
        → w2.connection ≡ w.connection + n → w2.initial ≡ w.initial → Follows (Credit 0 n ∷ h) w2
    Follows-credit-connection n same connection initial = record {
      connection = omega (
        arith,
        ints,
        follows.connection,
        connection,
        sum-more (credit_to 0) (Credit 0 n) h n refl,
        sum-other spending (Credit 0 n) h refl,
      );
      initial = initial ∙ follows.initial;
      balances = λ other there. same other there ∙ follows.balances other there
          ∙ sym (balances-other other (Credit 0 n) (since_opening other h)
          (if-other (nat_eq other 0) n (ne_eqb other 0 (λ e. omega (arith, e, there)))) refl);
    }

    pub Follows-spending : (id n : ℕ) (b next : ℤ) → n ≤ w.connection → balance w id ≡ Some b
        → next ≡ b -ℤ pos n
        → ((other : ℕ) → 0 < other
        → balance w2 other ≡ (if nat_eq other id then Some next else balance w other))
        → w2.connection ≡ w.connection - n → w2.initial ≡ w.initial → Follows (Spending id n ∷ h) w2
    Follows-spending id n b next within some lowered sets connection initial = record {
      connection = omega (
        arith,
        ints,
        follows.connection,
        connection,
        within,
        sum-other (credit_to 0) (Spending id n) h refl,
        sum-more spending (Spending id n) h n refl,
      );
      initial = initial ∙ follows.initial;
      balances = balances-set (Spending id n) id (Some next) w2 sets
          (λ other p there.
          subst (λ k.
          Some next
          ≡ option_map (balance_of k)
          (option_map (λ steps. Spending id n ∷ steps) (since_opening k h)))
          (sym (eqb-true other id p))
          (spent id n b next (since_opening id h) lowered
          (sym some ∙ follows.balances id (subst (λ k. 0 < k) (eqb-true other id p) there))))
          (λ other p.
          balances-other other (Spending id n) (since_opening other h) refl
          (if-other (nat_eq other id) n p));
    }

    pub Follows-resizing : (n : ℕ) → ((other : ℕ) → 0 < other → balance w2 other ≡ balance w other)
        → w2.connection ≡ w.connection → w2.initial ≡ n → Follows (Resizing n ∷ h) w2
    Follows-resizing n same connection initial = record {
      connection =
          ap pos connection ∙ follows.connection ∙ sym (connection-other (Resizing n) h refl refl);
      initial = initial;
      balances = λ other there. same other there ∙ follows.balances other there;
    }

    pub Follows-closing : (id : ℕ)
        → ((other : ℕ) → 0 < other
        → balance w2 other ≡ (if nat_eq other id then None else balance w other))
        → w2.connection ≡ w.connection → w2.initial ≡ w.initial → Follows (Closing id ∷ h) w2
    Follows-closing id sets connection initial = record {
      connection =
          ap pos connection ∙ follows.connection ∙ sym (connection-other (Closing id) h refl refl);
      initial = initial ∙ follows.initial;
      balances = balances-set (Closing id) id None w2 sets
          (λ other p there.
          sym
          (ap (λ t. option_map (balance_of other) (if t then None else since_opening other h)) p))
          (λ other p.
          ap (λ t. option_map (balance_of other) (if t then None else since_opening other h)) p);
    }
