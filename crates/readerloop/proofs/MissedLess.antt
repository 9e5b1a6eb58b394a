-- A half that missed a piece was fed less than all data that were told of its stream.
use Rattle.std.proofs.Common.{
  ◌≡◌,
  ◌∙◌,
  ℕ,
  ◌<◌,
  Bool,
  true,
  false,
  nat_eq,
  List,
  [],
  ◌∷◌,
  ◌++◌,
  Option,
  None,
  Some,
  ap,
  append-nil,
  arith,
  length,
  refl,
  sym,
}
use Rattle.std.specs.Prelude.{◌+◌, if◌then◌else◌}
use Rattle.std.proofs.lemmas.List.{length-append}
use Rattle.account.specs.declared.call.Shut.{Shut}
use Rattle.account.specs.declared.call.Shut.TheVariants as shut
use Rattle.connbook.specs.declared.answers.Receipt.TheVariants.{Feed, Discard, CallWindow, Overrun}
use Rattle.session.specs.declared.event.InEvent.TheVariants as events
use Rattle.session.specs.StreamData.{pieces}
use Rattle.readerloop.specs.Steps.{
  Closing,
  ShutAs,
  Misses,
  Fate,
  Plain,
  Admitted,
  Unserved,
  Unknown,
  TurnedAway,
  Received,
  Missed,
  Lacking,
  Step,
  Told,
  CutOff,
  Drains,
  Lacks,
  closing_at,
  closing_by,
  data_at,
  earlier,
  events_of,
  fed_by,
  lost,
  missed,
  unless,
}
use Rattle.readerloop.proofs.LawLemmas.{fed-open, pieces-push}

missed-some : (piece : List ℕ) → missed piece ≡ Some Misses → 0 < length piece
missed-some [] e = absurd cc
missed-some (byte ∷ bytes) e = omega arith

lost-some : (piece : List ℕ) (fate : Fate) → lost piece fate ≡ Some Misses → 0 < length piece
lost-some piece (Received Discard) e = missed-some piece e
lost-some piece (Received CallWindow) e = absurd cc
lost-some piece (Received Overrun) e = absurd cc
lost-some piece (Received Feed) e = absurd cc
lost-some piece Missed e = absurd cc
lost-some piece Lacking e = absurd cc
lost-some piece Plain e = absurd cc
lost-some piece Admitted e = absurd cc
lost-some piece (Unserved why) e = absurd cc
lost-some piece Unknown e = absurd cc
lost-some piece (TurnedAway fault) e = absurd cc

data-some : (here : Bool) (piece : List ℕ) (fate : Fate)
    → (if here then lost piece fate else None) ≡ Some Misses
    → 0 < length (if here then piece else [])
data-some true piece fate e = lost-some piece fate e
data-some false piece fate e = absurd cc

not-missed : (here : Bool) (kind : Shut)
    → (if here then Some (ShutAs kind) else None) ≡ Some Misses → ⊥
not-missed true kind e = cc
not-missed false kind e = cc

misses-now : (id : ℕ) (step : Step) → closing_at id step ≡ Some Misses
    → 0 < length (data_at id step)
misses-now id (Told (events.Data other piece counted) fate) e =
    data-some (nat_eq id other) piece fate e
misses-now id (Told (events.End other) fate) e = absurd (not-missed (nat_eq id other) shut.End e)
misses-now id (Told (events.Reset other code) fate) e = absurd (not-missed (nat_eq id other) _ e)
misses-now id (Told (events.StreamError other code) fate) e =
    absurd (not-missed (nat_eq id other) _ e)
misses-now id (Told (events.Open other head) fate) e = absurd cc
misses-now id (Told (events.BadHead other fault) fate) e = absurd cc
misses-now id (Told (events.Loose counted) fate) e = absurd cc
misses-now id (Told (events.Control control) fate) e = absurd cc
misses-now id (Told events.PeerGoaway fate) e = absurd cc
misses-now id (Told (events.Fatal cause) fate) e = absurd cc
misses-now id (CutOff other) e = absurd (not-missed (nat_eq id other) _ e)
misses-now id Drains e = absurd cc
misses-now id Lacks e = absurd cc

-- what is told of a step more
pub told-more : (id : ℕ) (step : Step) (before : List Step)
    → pieces id (events_of (step ∷ before)) ≡ pieces id (events_of before) ++ data_at id step
told-more id (Told event fate) before = pieces-push id (events_of before) event
told-more id (CutOff other) before = sym (append-nil (pieces id (events_of before)))
told-more id Drains before = sym (append-nil (pieces id (events_of before)))
told-more id Lacks before = sym (append-nil (pieces id (events_of before)))

pub missed-less : (id : ℕ) (told : List Step) → closing_by id told ≡ Some Misses
    → length (fed_by id told) < length (pieces id (events_of told))
missed-less id [] closed = absurd cc
missed-less id (step ∷ before) closed =
    by (closing_by id before) refl (λ missed. missed-less id before missed)
  where
    same : fed_by id (step ∷ before) ≡ fed_by id before
    same =
        ap (λ (found : Option Closing). fed_by id before ++ unless found (data_at id step)) closed
        ∙ append-nil (fed_by id before)

    more : length (pieces id (events_of (step ∷ before)))
        ≡ length (pieces id (events_of before)) + length (data_at id step)
    more =
        ap length (told-more id step before)
        ∙ length-append (pieces id (events_of before)) (data_at id step)

    by : (found : Option Closing) → closing_by id before ≡ found
        → (closing_by id before ≡ Some Misses
        → length (fed_by id before) < length (pieces id (events_of before)))
        → length (fed_by id (step ∷ before)) < length (pieces id (events_of (step ∷ before)))
    by None unclosed behind =
        let now =
        misses-now id step
        (sym (ap (λ (found : Option Closing). earlier found (closing_at id step)) unclosed)
        ∙ closed) in
        let all = ap length (fed-open id before unclosed) in
        let fed = ap length same in
        omega (arith, now, all, fed, more)
    by (Some closing) was behind =
        let less =
        behind (was
        ∙ (sym (ap (λ (found : Option Closing). earlier found (closing_at id step)) was)
        ∙ closed)) in
        let fed = ap length same in
        omega (arith, less, fed, more)
