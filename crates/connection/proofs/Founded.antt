-- Calls that are refused as ones of an unknown method, or left without a worker: with other steps,
-- and once the writer was seen to have stopped.
use Rattle.std.proofs.Common.{
  ◌≡◌,
  ◌≢◌,
  ℕ,
  Bool,
  true,
  false,
  List,
  [],
  ◌∷◌,
  ◌++◌,
  length,
  refl,
  subst,
}
use Rattle.std.specs.Prelude.{IfNone}
use Rattle.std.specs.List.{AllWithin}
use Rattle.std.proofs.lemmas.List.Folds.{none_from_all_within}
use Rattle.callhead.specs.declared.head.CallHead.{CallHead}
use Rattle.session.specs.declared.event.InEvent.{InEvent}
use Rattle.session.specs.declared.event.InEvent.TheVariants as events
use Rattle.readerloop.specs.Calls.{IsFirstWith}
use Rattle.readerloop.specs.Readings.{refused_by, unless_ended}
use Rattle.readerloop.specs.Orders.{ends_at}
use Rattle.readerloop.specs.Reports.{AreCalm}
use Rattle.readerloop.specs.Steps.{
  Lack,
  Plain,
  Admitted,
  NoWorker,
  Stopped,
  Unserved,
  Unknown,
  TurnedAway,
  Received,
  Missed,
  Lacking,
  Step,
  Told,
  CutOff,
  Drains,
  Lacks,
  WasUnserved,
  events_of,
}
use Rattle.callparts.specs.declared.report.Ending.{Ending}
use Rattle.callparts.specs.declared.report.Ending.TheVariants.{OutOfMemory}
use Rattle.std.specs.Prelude.{Option, None, Some}
use Rattle.connection.specs.Limits.{AreFounded, IsFounded}

module _ (names : List ℕ → ℕ → Type 0) where
  module _ (was now : Bool) (on : was ≡ true → now ≡ true) where
    pub one-founded : (step : Step) → IsFounded names was step → IsFounded names now step
    one-founded (Told (events.Open id head) Unknown) is = is
    one-founded (Told (events.Open id head) (Unserved Stopped)) is = on is
    one-founded (Told (events.Open id head) (Unserved NoWorker)) is = tt
    one-founded (Told (events.Open id head) Plain) is = tt
    one-founded (Told (events.Open id head) Admitted) is = tt
    one-founded (Told (events.Open id head) (TurnedAway fault)) is = tt
    one-founded (Told (events.Open id head) (Received receipt)) is = tt
    one-founded (Told (events.Open id head) Missed) is = tt
    one-founded (Told (events.Open id head) Lacking) is = tt
    one-founded (Told (events.BadHead id fault) fate) is = tt
    one-founded (Told (events.Data id piece counted) fate) is = tt
    one-founded (Told (events.Loose counted) fate) is = tt
    one-founded (Told (events.End id) fate) is = tt
    one-founded (Told (events.Reset id code) fate) is = tt
    one-founded (Told (events.StreamError id code) fate) is = tt
    one-founded (Told (events.Control control) fate) is = tt
    one-founded (Told events.PeerGoaway fate) is = tt
    one-founded (Told (events.Fatal cause) fate) is = tt
    one-founded (CutOff id) is = tt
    one-founded Drains is = tt
    one-founded Lacks is = tt

    pub all-founded : (told : List Step) → AreFounded names was told → AreFounded names now told
    all-founded [] are = tt
    all-founded (step ∷ told) are = (one-founded step are.0, all-founded told are.1)

  pub founded-at : (stopped : Bool) (later : List Step) (step : Step) (before : List Step)
      → AreFounded names stopped (later ++ step ∷ before) → IsFounded names stopped step
  founded-at stopped [] step before are = are.0
  founded-at stopped (other ∷ later) step before are = founded-at stopped later step before are.1

  calm-at : (later : List Step) (step : Step) (before : List Step)
      → AreCalm (later ++ step ∷ before) → ends_at step ≡ None
  calm-at [] step before calm = calm.0
  calm-at (other ∷ later) step before calm = calm-at later step before calm.1

  -- where no step ended the connection, and the writer wasn't seen to have stopped, a worker serves
  -- each call
  pub all-handed : (stopped : Bool) (told : List Step) → AreCalm told → (stopped ≡ true → ⊥)
      → AreFounded names stopped told → (id : ℕ) (head : CallHead) → WasUnserved id head told → ⊥
  all-handed stopped told calm going are id head (before, after, why, is) = by why is
    where
      by : (found : Lack) → told ≡ after ++ Told (events.Open id head) (Unserved found) ∷ before → ⊥
      by NoWorker so =
          ended (calm-at after (Told (events.Open id head) (Unserved NoWorker)) before
          (subst (λ (steps : List Step). AreCalm steps) so calm))
        where
          ended : Some OutOfMemory ≡ None → ⊥
          ended is-none = cc
      by Stopped so =
          going (founded-at stopped after (Told (events.Open id head) (Unserved Stopped)) before
          (subst (λ (steps : List Step). AreFounded names stopped steps) so are))

  not-nil : (given : List InEvent) (event : InEvent) → given ++ event ∷ [] ≡ [] → ⊥
  not-nil [] event is = cc
  not-nil (first ∷ given) event is = cc

  -- cuts and drains are neither
  pub cuts-founded : (stopped : Bool) (cuts told : List Step) → events_of cuts ≡ []
      → AreFounded names stopped told → AreFounded names stopped (cuts ++ told)
  cuts-founded stopped [] told silent are = are
  cuts-founded stopped (CutOff id ∷ cuts) told silent are =
      (tt, cuts-founded stopped cuts told silent are)
  cuts-founded stopped (Drains ∷ cuts) told silent are =
      (tt, cuts-founded stopped cuts told silent are)
  cuts-founded stopped (Lacks ∷ cuts) told silent are =
      (tt, cuts-founded stopped cuts told silent are)
  cuts-founded stopped (Told event fate ∷ cuts) told silent are =
      absurd (not-nil (events_of cuts) event silent)

  -- a call that isn't for the lock: where the connection goes on, and the server doesn't drain,
  -- none has its path
  pub refused-founded : (stopped : Bool) (id : ℕ) (head : CallHead) (draining : Bool)
      (end : Option Ending)
      → (end ≡ None → draining ≡ false → (index : ℕ) → names head.path index → ⊥)
      → IsFounded names stopped
      (Told (events.Open id head) (unless_ended end (refused_by draining)))
  refused-founded stopped id head true None none = tt
  refused-founded stopped id head false None none = none refl refl
  refused-founded stopped id head draining (Some ending) none = tt

pub none-of : {A P : Type 0} (found : Option A) → IfNone found P → found ≡ None → P
none-of None is none = is
none-of (Some x) is none = absurd cc

-- no method has the path, so none is the first with it
pub none-first : {A : Type 0} (name_of : A → List ℕ) (asked held : List A)
    (path found : List ℕ) (index : ℕ)
    → asked ≡ held → found ≡ path
    → AllWithin (λ method. name_of method ≢ found) asked 0 (length asked)
    → IsFirstWith name_of held path index → ⊥
none-first name_of asked held path found index are same none first =
    none_from_all_within (λ method. name_of method ≡ path) held
    (subst (λ (methods : List _).
    AllWithin (λ method. name_of method ≢ path) methods 0 (length methods)) are
    (subst (λ (p : List ℕ).
    AllWithin (λ method. name_of method ≢ p) asked 0 (length asked)) same none))
    (index, first.within, first.found)
