-- No fault stands in the way of a step, and what a step leaves.
use Rattle.std.proofs.Common.{
  ◌≡◌,
  ℕ,
  ◌+◌,
  ◌-◌,
  ◌<◌,
  ◌≤◌,
  List,
  [],
  ◌∷◌,
  length,
  Bool,
  true,
  false,
  true≢false,
  Some,
  None,
  Option,
  Result,
  Ok,
  Err,
  sym,
  ap,
  ◌∙◌,
  subst,
  refl,
  arith,
  nat_eq,
  eq-eqb,
  add-zero,
  min,
  inl,
  inr,
  suc,
}
use Rattle.std.specs.Prelude.{All, IsSome, MatchOption, OnOk, slice_get, if◌then◌else◌, nat_lt}
use Rattle.std.specs.Option.{option_map_or}
use Rattle.std.specs.Map.{lookup, keys_of, values_of}
use Rattle.std.proofs.lemmas.Bool.Decides.{nat_tests}
use Rattle.std.proofs.lemmas.List.Sums.{sum_by-cons}
use Rattle.creditbook.specs.declared.book.Call.{Call}
use Rattle.creditbook.specs.declared.book.fault.BookFault.{BookFault}
use Rattle.creditbook.specs.declared.book.fault.BookFault.TheVariants as faults
use Rattle.creditbook.specs.Books.{
  Books,
  IsLawful,
  IsLive,
  IsOdd,
  IsOver,
  IsOvergiven,
  call_at,
  window_of,
  NoneStands,
  Meets,
  ReceiveCause,
  GiveBackCause,
  after_receive,
  after_cut,
  with_received,
  unreturned,
  unreturned_of,
}
use Rattle.limits.proofs.Entries.{lookup-set}
use Rattle.creditbook.proofs.BookLemmas.{live_at}
use Rattle.connbook.specs.declared.answers.Receipt.{Receipt}
use Rattle.connbook.specs.declared.answers.Receipt.TheVariants.{Feed, Discard, CallWindow, Overrun}
use Rattle.connbook.specs.Receipts.{receipt_of, receipt_on, counted_of, after_stop}

-- where no fault has a cause, the call was Ok
pub done : {P : Type 0} (Cause : BookFault → Type 0) (result : Result (Unit {0}) BookFault)
    → NoneStands Cause → Meets Cause result → OnOk result P → P
done Cause (Ok x) none meets p = p
done Cause (Err f) none meets p = absurd (none f meets.0)

-- ---- ids

no_zero : (es : List (ℕ × Call)) (id : ℕ) → All IsOdd (keys_of es) → nat_eq id 0 ≡ true
    → lookup (nat_eq id) es ≡ None
no_zero [] id odd zero_is = refl
no_zero (e ∷ es) id odd zero_is =
    let first : IsOdd e.0 = odd 0 e.0 (omega arith) in
    let apart : nat_eq id e.0 ≡ false = grind (arith, nat_tests) in
    rw apart (no_zero es id (λ k d within. odd (suc k) d (omega arith)) zero_is)

-- the id of a live call isn't the connection's
pub live_id : (b : Books) (id : ℕ) (call : Call) → IsLawful b → call_at b id ≡ Some call
    → nat_eq id 0 ≡ false
live_id b id call law found = by (nat_eq id 0) refl
  where
    by : (t : Bool) → nat_eq id 0 ≡ t → t ≡ false
    by false is = refl
    by true is = let none = no_zero b.calls id law.odd is in absurd (cc (none, found))

-- ---- bytes that came on a live call

over_none : (most n : ℕ) (call : Call) → IsLive most call
    → n ≤ (65535 + call.counts.announced) - call.counts.received → ¬ IsOver call.counts n
over_none most n call live fits over = omega (arith, live.counted.received_within, fits, over)

fits_connection : (b : Books) (n : ℕ) → IsLawful b → n ≤ window_of b 0
    → b.connection.received + n ≤ min (65535 + b.connection.announced) 4611686018427387904
fits_connection b n law fits = omega (arith, fits, law.counted.received_within, law.bounded)

pub receives : (b : Books) (id n : ℕ) → IsLawful b → IsSome (call_at b id)
    → n ≤ window_of b 0 → n ≤ window_of b id → NoneStands (ReceiveCause b id n)
receives b id n law live fits fits_call = by (call_at b id) refl live
  where
    by : (o : Option Call) → call_at b id ≡ o → IsSome o → NoneStands (ReceiveCause b id n)
    by None found some = absurd (true≢false (sym some))
    by (Some call) found some = none
      where
        in_call : n ≤ (65535 + call.counts.announced) - call.counts.received
        in_call = rw (live_id b id call law found, found) at fits_call

        none : (fault : BookFault) → ¬ ReceiveCause b id n fault
        none faults.Unknown cause = let none_is = cause.1 in absurd (cc (none_is, found))
        none faults.CallWindow cause =
            over_none b.connection.received n call (live_at b id call law found) in_call
            (rw found at cause.1)
        none faults.ConnectionWindow cause = omega (arith, fits_connection b n law fits, cause)
        none faults.TooMany cause = cause
        none faults.Draining cause = cause
        none faults.Overgiven cause = cause
        none faults.OutOfMemory cause = cause

-- ---- padding

clash : (n : ℕ) (o : Option Call)
    → MatchOption o ⊥ (λ call. call.counts.returned + n ≤ call.counts.received)
    → MatchOption o ⊥ (λ call. IsOvergiven call.counts n) → ⊥
clash n (Some call) fits over = omega (arith, fits, over)
clash n None fits over = fits

pub returns_padding : (b : Books) (id n : ℕ) → IsLawful b
    → MatchOption (call_at b id) ⊥ (λ call. call.counts.returned + n ≤ call.counts.received)
    → NoneStands (GiveBackCause b id n)
returns_padding b id n law fits = none
  where
    zero_none : id ≡ 0 → ⊥
    zero_none is =
        let none_is = no_zero b.calls id law.odd (eq-eqb id 0 is) in
        subst (λ (o : Option Call).
        MatchOption o ⊥ (λ call. call.counts.returned + n ≤ call.counts.received)) none_is fits

    none : (fault : BookFault) → ¬ GiveBackCause b id n fault
    none faults.Unknown cause =
        subst (λ (o : Option Call).
        MatchOption o ⊥ (λ call. call.counts.returned + n ≤ call.counts.received)) cause.1 fits
    none faults.Overgiven cause = elim cause
        [ inl alone ↦ zero_none alone.0 | inr of_call ↦ clash n (call_at b id) fits of_call.1 ]
    none faults.CallWindow cause = cause
    none faults.ConnectionWindow cause = cause
    none faults.TooMany cause = cause
    none faults.Draining cause = cause
    none faults.OutOfMemory cause = cause

-- ---- what is to be fed hasn't been returned

module _ (b : Books) (id n padding : ℕ) (law : IsLawful b) (within : padding ≤ n) where
  Room : Option Call → Type 0
  Room o = MatchOption o ⊥ (λ call. call.counts.returned + padding ≤ call.counts.received)

  room : (call : Call) → call_at b id ≡ Some call → (t : Bool) → call.marks.local ≡ t
      → (if t then Discard else Feed) ≡ Feed → Room (call_at (after_receive b id n) id)
  unfolding Room
  room call found true over is = cc
  room call found false unmarked is =
      let live = live_at b id call law found in
      rw (
        live_id b id call law found,
        found,
        lookup-set id call (record call {
          counts = with_received call.counts n call.marks.local;
        }) b.calls found,
        unmarked,
      )
      (omega (arith, live.counted.returned_within, within))

  on_call : (call : Call) → call_at b id ≡ Some call → (t : Bool)
      → (if t then CallWindow else if call.marks.local then Discard else Feed) ≡ Feed
      → Room (call_at (after_receive b id n) id)
  on_call call found true is = cc
  on_call call found false is = room call found call.marks.local refl is

  known : (o : Option Call) → call_at b id ≡ o → option_map_or (receipt_on b id n) o Discard ≡ Feed
      → Room (call_at (after_receive b id n) id)
  known None found is = cc
  known (Some call) found is = on_call call found (nat_lt (window_of b id) n) is

  pub fed : receipt_of b id n ≡ Feed
      → MatchOption (call_at (after_receive b id n) id) ⊥
      (λ call. call.counts.returned + padding ≤ call.counts.received)
  unfolding Room
  fed = by (nat_lt (window_of b 0) n)
    where
      by : (t : Bool)
          → (if t then Overrun else option_map_or (receipt_on b id n) (call_at b id) Discard) ≡ Feed
          → Room (call_at (after_receive b id n) id)
      by true is = cc
      by false is = known (call_at b id) refl is

-- ---- what is past a call's window is more than 65,535 bytes on the connection

pub past_call : (b : Books) (id n : ℕ) → IsLawful b → receipt_of b id n ≡ CallWindow
    → 65535 < b.connection.received + n
past_call b id n law = whole (nat_lt (window_of b 0) n) refl
  where
    live : (call : Call) → call_at b id ≡ Some call → window_of b id < n
        → 65535 < b.connection.received + n
    live call found over =
        let is_live = live_at b id call law found in
        let past : (65535 + call.counts.announced) - call.counts.received < n =
        rw (live_id b id call law found, found) at over in
        omega (arith, past, is_live.within)

    on_call : (call : Call) → call_at b id ≡ Some call → (t : Bool) → nat_lt (window_of b id) n ≡ t
        → (if t then CallWindow else if call.marks.local then Discard else Feed) ≡ CallWindow
        → 65535 < b.connection.received + n
    on_call call found true over is = live call found (grind (arith, nat_tests))
    on_call call found false over is = by call.marks.local is
      where
        by : (t : Bool) → (if t then Discard else Feed) ≡ CallWindow
            → 65535 < b.connection.received + n
        by true same = cc
        by false same = cc

    known : (o : Option Call) → call_at b id ≡ o
        → option_map_or (receipt_on b id n) o Discard ≡ CallWindow
        → 65535 < b.connection.received + n
    known None found is = cc
    known (Some call) found is = on_call call found (nat_lt (window_of b id) n) refl is

    whole : (t : Bool) → nat_lt (window_of b 0) n ≡ t
        → (if t then Overrun else option_map_or (receipt_on b id n) (call_at b id) Discard)
        ≡ CallWindow
        → 65535 < b.connection.received + n
    whole true over is = cc
    whole false over is = known (call_at b id) refl is

-- ---- cutting the call that was admitted first

pub cut_first : (b : Books) (id : ℕ) → slice_get (keys_of b.calls) 0 ≡ Some id
    → (after_stop (after_cut b id) ≡ after_stop b)
    × (length (after_cut b id).calls < length b.calls)
cut_first b id = by b.calls
  where
    by : (calls : List (ℕ × Call)) → slice_get (keys_of calls) 0 ≡ Some id
        → (after_stop (after_cut (record b { calls = calls }) id)
        ≡ after_stop (record b { calls = calls }))
        × (length (after_cut (record b { calls = calls }) id).calls < length calls)
    by [] found = cc
    by ((key, call) ∷ rest) found =
        let same : nat_eq id key ≡ true = eq-eqb id key (cc) in
        let behind : Books = record b {
          connection =
              record b.connection { returned = b.connection.returned + unreturned call.counts };
          calls = rest;
        } in
        let cut : after_cut (record b { calls = (key, call) ∷ rest }) id ≡ behind =
        rw same (rw same refl) in
        let more : (b.connection.returned + unreturned call.counts) + unreturned_of rest
        ≡ b.connection.returned + unreturned_of ((key, call) ∷ rest) =
        omega (arith, sum_by-cons (λ (c : Call). unreturned c.counts) call (values_of rest)) in (
          ap after_stop cut
              ∙ ap (λ n. record b
              { connection = record b.connection { returned = n }; calls = [] }) more,
          omega (arith, ap (λ (book : Books). length book.calls) cut),
        )

pub stop_empty : (b : Books) → slice_get (keys_of b.calls) 0 ≡ None → after_stop b ≡ b
stop_empty b = by b.calls
  where
    by : (calls : List (ℕ × Call)) → slice_get (keys_of calls) 0 ≡ None
        → after_stop (record b { calls = calls }) ≡ record b { calls = calls }
    by [] found = rw add-zero refl
    by (e ∷ rest) found = cc

-- no more bytes count than came
pub counted_within : (n : ℕ) (r : Receipt) → counted_of n r ≤ n
counted_within n Feed = omega arith
counted_within n Discard = omega arith
counted_within n CallWindow = omega arith
counted_within n Overrun = omega arith
