-- What one step more makes of the reading side, and what is decided of it.
use Rattle.reasons.specs.declared.Reason.{Reason}
use Rattle.std.proofs.Common.{
  ◌≡◌,
  ◌≢◌,
  ◌∙◌,
  ℕ,
  ◌<◌,
  Bool,
  true,
  false,
  true≢false,
  List,
  [],
  ◌∷◌,
  ◌++◌,
  Option,
  None,
  Some,
  ap,
  arith,
  refl,
  subst,
  sym,
}
use Rattle.std.specs.Prelude.{◌&&◌, ◌||◌, if◌then◌else◌, is_none, min}
use Rattle.std.proofs.lemmas.List.{append_assoc}
use Rattle.account.specs.declared.call.OutItem.{OutItem}
use Rattle.callparts.specs.declared.order.OpeningCall.{OpeningCall}
use Rattle.callparts.specs.declared.register.Naming.{Ghosts}
use Rattle.callparts.specs.declared.report.Ending.{Ending}
use Rattle.connbook.specs.declared.answers.Receipt.{Receipt}
use Rattle.connbook.specs.declared.answers.Receipt.TheVariants.{Feed, Discard, CallWindow, Overrun}
use Rattle.h2frame.specs.declared.error_code.ErrorCode.TheVariants.{Cancel}
use Rattle.handlers.specs.declared.step.MethodStep.{MethodStep as Answer}
use Rattle.outwriter.specs.declared.control.WriterOrder.{WriterOrder}
use Rattle.outwriter.specs.declared.control.WriterOrder.TheVariants.{Goaway, Reset}
use Rattle.outwriter.specs.Steps.{Order, order_of}
use Rattle.session.specs.declared.event.InEvent.{InEvent}
use Rattle.session.specs.declared.event.InEvent.TheVariants as events
use Rattle.readerloop.specs.declared.decision.HalfToShut.{HalfToShut}
use Rattle.readerloop.specs.declared.decision.Decision.{Decision}
use Rattle.readerloop.specs.declared.reading.Reading.{Reading}
use Rattle.readerloop.specs.Calls.{carried_in, is_admitted}
use Rattle.readerloop.specs.Concerns.{Concerns, IsIdle}
use Rattle.readerloop.specs.Kept.{Kept, accounts_of, unsettled}
use Rattle.readerloop.specs.Orders.{
  IsDue,
  begun,
  begun_at,
  came_loose,
  ends_at,
  greatest,
  is_fed,
  last_stream,
  named,
  named_with,
  orders_at,
}
use Rattle.readerloop.specs.Readings.{
  Awaits,
  Begins,
  Counts,
  Decides,
  DecidesOn,
  MayMiss,
  Reads,
  Stands,
  fate_of,
  goaway_in,
  order_in,
  orders_in,
  unless_ended,
}
use Rattle.readerloop.specs.Steps.{
  CutOff,
  Drains,
  Lacks,
  Fate,
  Lacking,
  Missed,
  Received,
  ShutAs,
  Step,
  Told,
  WasTold,
  closing_at,
  closing_by,
  events_of,
  is_drain,
  is_draining,
  reported,
  since,
}
use Rattle.readerloop.proofs.KeptSteps.{kept-idle}

-- ---- streams that were begun

min-below : (n : ℕ) → n < 4096 → min 4096 n ≡ n
min-below n low = omega (arith, low)

-- the step begins no stream, and the server goes on
pub record IsQuiet (step : Step) : Type 0 where
  pub begins : begun_at step ≡ []
  pub goes_on : is_drain step ≡ false

pub quiet : (step : Step) → begun_at step ≡ [] → is_drain step ≡ false → IsQuiet step
quiet step begins goes_on = record { begins = begins; goes_on = goes_on }

begun-none : (step : Step) (told : List Step) → begun_at step ≡ []
    → begun (step ∷ told) ≡ begun told
begun-none step told none = ap (λ (ids : List ℕ). ids ++ begun told) none

named-none : (step : Step) (told : List Step) → begun_at step ≡ [] → is_drain step ≡ false
    → named (step ∷ told) ≡ named told
named-none (Told (events.Open id head) fate) told none goes = absurd cc
named-none (Told (events.BadHead id fault) fate) told none goes = absurd cc
named-none (Told (events.Data id piece counted) fate) told none goes = refl
named-none (Told (events.Loose counted) fate) told none goes = refl
named-none (Told (events.End id) fate) told none goes = refl
named-none (Told (events.Reset id code) fate) told none goes = refl
named-none (Told (events.StreamError id code) fate) told none goes = refl
named-none (Told (events.Control control) fate) told none goes = refl
named-none (Told events.PeerGoaway fate) told none goes = refl
named-none (Told (events.Fatal cause) fate) told none goes = refl
named-none (CutOff id) told none goes = refl
named-none Drains told none goes = absurd (true≢false goes)
named-none Lacks told none goes = refl

one-same : {one other : ℕ} → one ∷ [] ≡ other ∷ [] → one ≡ other
one-same is = cc

named-one : (step : Step) (told : List Step) (id : ℕ) → begun_at step ≡ id ∷ []
    → named (step ∷ told) ≡ named_with id (is_draining told) (named told)
named-one (Told (events.Open other head) fate) told id is =
    ap (λ (n : ℕ). named_with n (is_draining told) (named told)) (one-same is)
named-one (Told (events.BadHead other fault) fate) told id is =
    ap (λ (n : ℕ). named_with n (is_draining told) (named told)) (one-same is)
named-one (Told (events.Data other piece counted) fate) told id is = absurd cc
named-one (Told (events.Loose counted) fate) told id is = absurd cc
named-one (Told (events.End other) fate) told id is = absurd cc
named-one (Told (events.Reset other code) fate) told id is = absurd cc
named-one (Told (events.StreamError other code) fate) told id is = absurd cc
named-one (Told (events.Control control) fate) told id is = absurd cc
named-one (Told events.PeerGoaway fate) told id is = absurd cc
named-one (Told (events.Fatal cause) fate) told id is = absurd cc
named-one (CutOff other) told id is = absurd cc
named-one Drains told id is = absurd cc
named-one Lacks told id is = absurd cc

goes-one : (step : Step) (id : ℕ) → begun_at step ≡ id ∷ [] → is_drain step ≡ false
goes-one (Told event fate) id is = refl
goes-one (CutOff other) id is = refl
goes-one Drains id is = absurd cc
goes-one Lacks id is = refl

module _ {J M : Type 0} {book : Ghosts J} where
  pub counts-same : (n : ℕ) (ids : List ℕ) (old new : Reading J M book) → new.last ≡ old.last
      → new.begun ≡ old.begun → Counts n ids old → Counts n ids new
  counts-same n ids old new last count counts =
      record { last_is = last ∙ counts.last_is; count = count ∙ counts.count }

  pub counts-step : (step : Step) (told : List Step) (reading : Reading J M book) → IsQuiet step
      → Counts (named told) (begun told) reading
      → Counts (named (step ∷ told)) (begun (step ∷ told)) reading
  counts-step step told reading quiet counts =
      subst (λ (n : ℕ). Counts n (begun (step ∷ told)) reading)
      (sym (named-none step told quiet.begins quiet.goes_on))
      (subst (λ (ids : List ℕ). Counts (named told) ids reading)
      (sym (begun-none step told quiet.begins)) counts)

  -- what is counted where a stream begins
  abbrev pub CountsOn : ℕ → Option ℕ → Reading J M book → Reading J M book → Type 0
  CountsOn id goaway old new = (last : ℕ) (ids : List ℕ) → Counts last ids old
      → Counts (named_with id old.is_draining last) (id ∷ ids) new
      × (goaway_in goaway ≡ last_stream id old.is_draining ids)

  pub counts-none : (reading : Reading J M book) → reading.last ≡ 0 → reading.begun ≡ 0
      → Counts 0 [] reading
  counts-none reading last count = record { last_is = last; count = count }

module _ {J M : Type 0} {book : Ghosts J} where
  -- where a stream is counted these stay
  pub record IsCounted (old new : Reading J M book) : Type 0 where
    pub calls : new.calls ≡ old.calls
    pub draining : new.is_draining ≡ old.is_draining
    pub goaway : new.peer_goaway ≡ old.peer_goaway

  pub counted : (old new : Reading J M book)
      → new ≡ record old { last = new.last; begun = new.begun } → IsCounted old new
  counted old new rest = record {
    calls = ap (λ (reading : Reading J M book). reading.calls) rest;
    draining = ap (λ (reading : Reading J M book). reading.is_draining) rest;
    goaway = ap (λ (reading : Reading J M book). reading.peer_goaway) rest;
  }

-- ---- what was told

pub told-more : (event : InEvent) (step : Step) (told : List Step) → WasTold event told
    → WasTold event (step ∷ told)
told-more event (Told other fate) told (before, after, is) = (
  before,
  after ++ other ∷ [],
  ap (λ (es : List InEvent). es ++ other ∷ []) is
      ∙ append_assoc before (event ∷ after) (other ∷ []),
)
told-more event (CutOff id) told was = was
told-more event Drains told was = was
told-more event Lacks told was = was

draining-not : (told : List Step) (step : Step) → is_drain step ≡ false
    → is_draining (step ∷ told) ≡ is_draining told
draining-not told step not = ap (λ (b : Bool). b || is_draining told) not

-- ---- the reading side

module _ {J M : Type 0} {book : Ghosts J} {known : ℕ → List (List ℕ) → Bool → Answer → Type 0}
    {names : List ℕ → ℕ → Type 0} {carries : ℕ → List OutItem → Type 0} where
  -- a step that begins no stream
  pub reads-step : (told : List Step) (step : Step) (old new : Reading J M book) → IsQuiet step
      → new.is_draining ≡ old.is_draining → new.last ≡ old.last → new.begun ≡ old.begun
      → new.peer_goaway ≡ old.peer_goaway
      → (Kept known names carries told old.calls → Kept known names carries (step ∷ told) new.calls)
      → Reads known names carries told old → Reads known names carries (step ∷ told) new
  reads-step told step old new quiet draining last count goaway hears reads = record {
    calls = hears reads.calls;
    drains = draining ∙ (reads.drains ∙ sym (draining-not told step quiet.goes_on));
    counts =
        counts-step step told new quiet
        (counts-same (named told) (begun told) old new last count reads.counts);
    goaway = λ is. told-more events.PeerGoaway step told (reads.goaway (sym goaway ∙ is));
  }

  -- the peer opens no more streams
  pub reads-goaway : (told : List Step) (fate : Fate) (old new : Reading J M book)
      → new.is_draining ≡ old.is_draining → new.last ≡ old.last → new.begun ≡ old.begun
      → (Kept known names carries told old.calls
      → Kept known names carries (Told events.PeerGoaway fate ∷ told) new.calls)
      → Reads known names carries told old
      → Reads known names carries (Told events.PeerGoaway fate ∷ told) new
  reads-goaway told fate old new draining last count hears reads = record {
    calls = hears reads.calls;
    drains = draining ∙ reads.drains;
    counts =
        counts-step (Told events.PeerGoaway fate) told new
        (record { begins = refl; goes_on = refl })
        (counts-same (named told) (begun told) old new last count reads.counts);
    goaway = λ is. (events_of told, [], refl);
  }

  -- a step that is nothing to any call, and begins no stream
  pub reads-idle : (told : List Step) (step : Step) (reading : Reading J M book) → IsQuiet step
      → IsIdle step → Reads known names carries told reading
      → Reads known names carries (step ∷ told) reading
  reads-idle told step reading quiet idle reads =
      reads-step told step reading reading quiet refl refl refl refl (λ kept.
      kept-idle told step (unsettled reading.calls) (accounts_of reading.calls)
      reading.calls.last idle kept) reads

  -- the same steps
  pub reads-same : (told : List Step) (old new : Reading J M book)
      → new.is_draining ≡ old.is_draining → new.last ≡ old.last → new.begun ≡ old.begun
      → new.peer_goaway ≡ old.peer_goaway
      → (Kept known names carries told old.calls → Kept known names carries told new.calls)
      → Reads known names carries told old → Reads known names carries told new
  reads-same told old new draining last count goaway keeps reads = record {
    calls = keeps reads.calls;
    drains = draining ∙ reads.drains;
    counts = counts-same (named told) (begun told) old new last count reads.counts;
    goaway = λ is. reads.goaway (sym goaway ∙ is);
  }

  -- a half that is to be shut
  pub awaits-cut : (told : List Step) (step : Step) (cut : HalfToShut) (reading : Reading J M book)
      → IsQuiet step → Concerns cut.id step → closing_at cut.id step ≡ Some (ShutAs cut.kind)
      → Reads known names carries told reading → Awaits known names carries told step cut reading
  awaits-cut told step cut reading quiet concerns closes reads = record {
    calls = reads.calls;
    drains = reads.drains;
    counts = counts-step step told reading quiet reads.counts;
    goaway = reads.goaway;
    concerns = concerns;
    closes = closes;
  }

  pub shuts-awaited : (told : List Step) (step : Step) (cut : HalfToShut)
      (old new : Reading J M book)
      → new.is_draining ≡ old.is_draining → new.last ≡ old.last → new.begun ≡ old.begun
      → new.peer_goaway ≡ old.peer_goaway
      → (Concerns cut.id step → closing_at cut.id step ≡ Some (ShutAs cut.kind)
      → Kept known names carries told old.calls → Kept known names carries (step ∷ told) new.calls)
      → Awaits known names carries told step cut old → Reads known names carries (step ∷ told) new
  shuts-awaited told step cut old new draining last count goaway hears awaits = record {
    calls = hears awaits.concerns awaits.closes awaits.calls;
    drains = draining ∙ (awaits.drains ∙ sym (draining-not told step awaits.concerns.drains));
    counts =
        counts-same (named (step ∷ told)) (begun (step ∷ told)) old new last count awaits.counts;
    goaway = λ is. told-more events.PeerGoaway step told (awaits.goaway (sym goaway ∙ is));
  }

  -- a stream that begins
  pub begins-with : (told : List Step) (step : Step) (id : ℕ) (old new : Reading J M book)
      → begun_at step ≡ id ∷ [] → new.is_draining ≡ old.is_draining → new.last ≡ old.last
      → new.begun ≡ old.begun → new.peer_goaway ≡ old.peer_goaway
      → (Kept known names carries told old.calls → Kept known names carries (step ∷ told) new.calls)
      → Reads known names carries told old → Begins known names carries told step id new
  begins-with told step id old new begins draining last count goaway hears reads = record {
    calls = hears reads.calls;
    drains = draining ∙ reads.drains;
    counts = counts-same (named told) (begun told) old new last count reads.counts;
    goaway = λ is. reads.goaway (sym goaway ∙ is);
    begins = ap (λ (ids : List ℕ). ids ++ begun told) begins;
    names_on = named-one step told id begins;
    goes_on = draining-not told step (goes-one step id begins);
  }

  -- where the step is nothing to any call
  pub begins-idle : (told : List Step) (step : Step) (id : ℕ) (reading : Reading J M book)
      → begun_at step ≡ id ∷ [] → IsIdle step → Reads known names carries told reading
      → Begins known names carries told step id reading
  begins-idle told step id reading begins idle reads =
      begins-with told step id reading reading begins refl refl refl refl (λ kept.
      kept-idle told step (unsettled reading.calls) (accounts_of reading.calls)
      reading.calls.last idle kept) reads

  -- ---- what is decided

  stands-none : (told : List Step) (step : Step) (cut : Option HalfToShut)
      (reading : Reading J M book)
      → cut ≡ None → Reads known names carries (step ∷ told) reading
      → Stands known names carries told step cut reading
  stands-none told step cut reading none reads =
      subst (λ (found : Option HalfToShut).
      Stands known names carries told step found reading) (sym none) reads

  stands-some : (told : List Step) (step : Step) (found : Option HalfToShut) (cut : HalfToShut)
      (reading : Reading J M book)
      → found ≡ Some cut → Awaits known names carries told step cut reading
      → Stands known names carries told step found reading
  stands-some told step found cut reading some awaits =
      subst (λ (c : Option HalfToShut).
      Stands known names carries told step c reading) (sym some) awaits

  -- no half is to be shut
  pub decides-now : (told : List Step) (step : Step) (decided : Decision J book)
      (reading : Reading J M book)
      → orders_in decided ≡ orders_at told step → decided.ends ≡ ends_at step
      → decided.to_shut ≡ None
      → Reads known names carries (step ∷ told) reading
      → Decides known names carries told step decided reading
  decides-now told step decided reading orders ends none reads = record {
    orders = orders;
    ends = ends;
    stands = stands-none told step decided.to_shut reading none reads;
  }

  -- one is
  pub decides-cut : (told : List Step) (step : Step) (decided : Decision J book) (cut : HalfToShut)
      (reading : Reading J M book)
      → orders_in decided ≡ orders_at told step → decided.ends ≡ ends_at step
      → decided.to_shut ≡ Some cut → Awaits known names carries told step cut reading
      → Decides known names carries told step decided reading
  decides-cut told step decided cut reading orders ends some awaits = record {
    orders = orders;
    ends = ends;
    stands = stands-some told step decided.to_shut cut reading some awaits;
  }

  -- the same step
  pub decides-as : (told : List Step) (step other : Step) (decided : Decision J book)
      (reading : Reading J M book)
      → other ≡ step → Decides known names carries told step decided reading
      → Decides known names carries told other decided reading
  decides-as told step other decided reading is decides =
      subst (λ (s : Step). Decides known names carries told s decided reading) (sym is) decides

  -- a stream begins
  pub counts-begun : (told : List Step) (step : Step) (id : ℕ) (goaway : Option ℕ)
      (old new : Reading J M book)
      → CountsOn id goaway old new → Begins known names carries told step id old
      → Counts (named_with id (is_draining told) (named told)) (id ∷ begun told) new
      × (goaway_in goaway ≡ last_stream id (is_draining told) (begun told))
  counts-begun told step id goaway old new counts begins =
      subst (λ (b : Bool).
      Counts (named_with id b (named told)) (id ∷ begun told) new
      × (goaway_in goaway ≡ last_stream id b (begun told))) begins.drains
      (counts (named told) (begun told) begins.counts)

  reads-begun : (told : List Step) (step : Step) (id : ℕ) (old new : Reading J M book)
      → IsCounted old new
      → Counts (named_with id (is_draining told) (named told)) (id ∷ begun told) new
      → Begins known names carries told step id old → Reads known names carries (step ∷ told) new
  reads-begun told step id old new same counts begins = record {
    calls = rw same.calls begins.calls;
    drains = same.draining ∙ (begins.drains ∙ sym begins.goes_on);
    counts = subst (λ (n : ℕ). Counts n (begun (step ∷ told)) new) (sym begins.names_on)
        (subst (λ (ids : List ℕ). Counts (named_with id (is_draining told) (named told)) ids new)
        (sym begins.begins) counts);
    goaway = λ is. told-more events.PeerGoaway step told (begins.goaway (sym same.goaway ∙ is));
  }

  pub decides-begun : (told : List Step) (step : Step) (id : ℕ) (decided : Decision J book)
      (more : List Order) (old new : Reading J M book)
      → IsCounted old new
      → CountsOn id decided.goaway old new → order_in decided.order ≡ more
      → orders_at told step ≡ last_stream id (is_draining told) (begun told) ++ more
      → decided.ends ≡ ends_at step → decided.to_shut ≡ None
      → Begins known names carries told step id old
      → Decides known names carries told step decided new
  decides-begun told step id decided more old new same counts order orders ends none begins =
      let count = counts-begun told step id decided.goaway old new counts begins in
      decides-now told step decided new
      (ap (λ (os : List Order). os ++ order_in decided.order) count.1
      ∙ (ap (λ (os : List Order). last_stream id (is_draining told) (begun told) ++ os) order
      ∙ sym orders))
      ends none (reads-begun told step id old new same count.0 begins)

  -- the server drains
  pub reads-drain : (told : List Step) (old new : Reading J M book)
      → new.last ≡ greatest (reported told) → new.begun ≡ old.begun
      → new.peer_goaway ≡ old.peer_goaway → new.is_draining ≡ true
      → (Kept known names carries told old.calls
      → Kept known names carries (Drains ∷ told) new.calls)
      → Reads known names carries told old → Reads known names carries (Drains ∷ told) new
  reads-drain told old new last count goaway draining hears reads = record {
    calls = hears reads.calls;
    drains = draining;
    counts = record { last_is = last; count = count ∙ reads.counts.count };
    goaway = λ is. told-more events.PeerGoaway Drains told (reads.goaway (sym goaway ∙ is));
  }

-- ---- more of them

module _ {J M : Type 0} {book : Ghosts J} {known : ℕ → List (List ℕ) → Bool → Answer → Type 0}
    {names : List ℕ → ℕ → Type 0} where
  -- there was no memory, or there was
  pub lacks-as : (event : InEvent) (fate : Fate) (decided : Decision J book) (ending : Ending)
      (old new : Reading J M book)
      → decided.ends ≡ Some ending
      → DecidesOn known names (Told event Lacking) decided old new
      → DecidesOn known names (Told event (unless_ended decided.ends fate)) decided old new
  lacks-as event fate decided ending old new is decides sent told reads =
      subst (λ (end : Option Ending).
      Decides known names (carried_in sent) told (Told event (unless_ended end fate)) decided new)
      (sym is) (decides sent told reads)

  pub plain-as : (event : InEvent) (fate : Fate) (decided : Decision J book)
      (old new : Reading J M book)
      → decided.ends ≡ None
      → DecidesOn known names (Told event fate) decided old new
      → DecidesOn known names (Told event (unless_ended decided.ends fate)) decided old new
  plain-as event fate decided old new is decides sent told reads =
      subst (λ (end : Option Ending).
      Decides known names (carried_in sent) told (Told event (unless_ended end fate)) decided new)
      (sym is) (decides sent told reads)

  -- as the step says it goes on, there was memory
  pub calm-as : (event : InEvent) (fate : Fate) (decided : Decision J book)
      (old new : Reading J M book)
      → ends_at (Told event fate) ≡ None
      → DecidesOn known names (Told event fate) decided old new
      → DecidesOn known names (Told event (unless_ended decided.ends fate)) decided old new
  calm-as event fate decided old new calm decides sent told reads =
      let now = decides sent told reads in
      subst (λ (end : Option Ending).
      Decides known names (carried_in sent) told (Told event (unless_ended end fate)) decided new)
      (sym (now.ends ∙ calm)) now

-- one order, or none
module _ {J : Type 0} {book : Ghosts J} where
  pub one-order : (decided : Decision J book) (order : WriterOrder (OpeningCall J book))
      → decided.goaway ≡ None → decided.order ≡ Some order → orders_in decided ≡ order_of order ∷ []
  one-order decided order none some =
      ap (λ (found : Option ℕ). goaway_in found ++ order_in decided.order) none
      ∙ ap (λ (found : Option (WriterOrder (OpeningCall J book))). order_in found) some

  pub no-order : (decided : Decision J book) → decided.goaway ≡ None → decided.order ≡ None
      → orders_in decided ≡ []
  no-order decided none nothing =
      ap (λ (found : Option ℕ). goaway_in found ++ order_in decided.order) none
      ∙ ap (λ (found : Option (WriterOrder (OpeningCall J book))). order_in found) nothing

  -- the order that ends the connection names this stream
  pub goaway-order : (order : WriterOrder (OpeningCall J book)) (last id : ℕ) (cause : Reason)
      → order ≡ Goaway last cause → last ≡ id → order_in (Some order) ≡ Goaway id cause ∷ []
  goaway-order order last id cause is same =
      ap (λ (one : WriterOrder (OpeningCall J book)). order_in (Some one)) is
      ∙ ap (λ (n : ℕ). order_in {S = OpeningCall J book} (Some (Goaway n cause))) same

pub cut-fed : (id : ℕ) (before : List Step) → is_fed id before ≡ true
    → orders_at before (CutOff id) ≡ Reset id Cancel true ∷ []
cut-fed id before fed = ap (λ (b : Bool). if b then Reset id Cancel true ∷ [] else []) fed

pub loose-none : (last : ℕ) (receipt : Receipt) → receipt ≢ Overrun
    → came_loose last (Received receipt) ≡ []
loose-none last Feed not = refl
loose-none last Discard not = refl
loose-none last CallWindow not = refl
loose-none last Overrun not = absurd (not refl)

pub loose-calm : (counted : ℕ) (receipt : Receipt) → receipt ≢ Overrun
    → ends_at (Told (events.Loose counted) (Received receipt)) ≡ None
loose-calm counted Feed not = refl
loose-calm counted Discard not = refl
loose-calm counted CallWindow not = refl
loose-calm counted Overrun not = absurd (not refl)

pub fed-both : (id : ℕ) (told : List Step) → is_admitted id told ≡ true
    → is_none (closing_by id (since id told)) ≡ true → is_fed id told ≡ true
fed-both id told known unclosed =
    ap (λ (b : Bool). b && is_none (closing_by id (since id told))) known ∙ unclosed

-- ---- what became of a piece

pub fate-fed : {S : Type 0} (id counted : ℕ) (piece : List ℕ) (order : Option (WriterOrder S))
    (ends : Option Ending)
    → order ≡ None
    → Told (events.Data id piece counted) (fate_of Feed order ends)
    ≡ Told (events.Data id piece counted) (Received Feed)
fate-fed id counted piece None ends none = refl
fate-fed id counted piece (Some order) ends none = absurd cc

pub fate-missed : {S : Type 0} (id counted : ℕ) (piece : List ℕ) (order : Option (WriterOrder S))
    (ends : Option Ending) (one : WriterOrder S)
    → order ≡ Some one → ends ≡ None
    → Told (events.Data id piece counted) (fate_of Feed order ends)
    ≡ Told (events.Data id piece counted) Missed
fate-missed id counted piece None ends one some none = absurd cc
fate-missed id counted piece (Some order) None one some none = refl
fate-missed id counted piece (Some order) (Some ending) one some none = absurd cc

pub fate-lacks : {S : Type 0} (id counted : ℕ) (piece : List ℕ) (order : Option (WriterOrder S))
    (ends : Option Ending) (one : WriterOrder S) (ending : Ending)
    → order ≡ Some one → ends ≡ Some ending
    → Told (events.Data id piece counted) (fate_of Feed order ends)
    ≡ Told (events.Data id piece counted) Lacking
fate-lacks id counted piece None ends one ending some is = absurd cc
fate-lacks id counted piece (Some order) None one ending some is = absurd cc
fate-lacks id counted piece (Some order) (Some other) one ending some is = refl

pub may-miss : {S : Type 0} (id : ℕ) (piece : List ℕ) (told : List Step)
    (order : Option (WriterOrder S)) (ends : Option Ending)
    → (order ≢ None → IsDue id piece told) → MayMiss id piece (fate_of Feed order ends) told
may-miss id piece told None ends due = tt
may-miss id piece told (Some order) None due = due (λ e. let wrong : Some order ≡ None = e in cc)
may-miss id piece told (Some order) (Some ending) due =
    due (λ e. let wrong : Some order ≡ None = e in cc)
