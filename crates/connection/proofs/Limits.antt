-- A call is turned away only behind 64 others on lesser streams.
use Rattle.std.proofs.Common.{
  ◌≡◌,
  ◌∙◌,
  ◌⊎◌,
  inl,
  inr,
  ◌+◌,
  ◌<◌,
  ◌≤◌,
  ℕ,
  List,
  [],
  ◌∷◌,
  ◌++◌,
  All,
  ap,
  arith,
  length,
  lt_trans,
  subst,
  sym,
}
use Rattle.std.proofs.lemmas.List.{append_assoc}
use Rattle.std.proofs.lemmas.List.Elements.{All-cons, All-nil}
use Rattle.std.proofs.lemmas.Grind.{flat_map-append}
use mathlib.Core.List.{IsPrefix}
use Rattle.callhead.specs.declared.head.CallHead.{CallHead}
use Rattle.connbook.specs.declared.answers.AdmitFault.{AdmitFault}
use Rattle.connbook.specs.declared.answers.AdmitFault.TheVariants as refused
use Rattle.session.specs.declared.event.InEvent.{InEvent}
use Rattle.session.specs.declared.event.InEvent.TheVariants as events
use Rattle.session.specs.Events.{Events}
use Rattle.session.specs.FlowBytes.{counted_by, counted_told, payloads}
use Rattle.session.specs.Framings.{Framed}
use Rattle.session.proofs.FlowTold.{told_within}
use Rattle.h2frame.specs.FrameList.{Entry}
use Rattle.connbook.specs.declared.answers.Receipt.TheVariants.{CallWindow}
use Rattle.session.specs.Openings.{AreRising, RiseFrom, opening_of, openings}
use Rattle.session.proofs.OpeningOrder.{events_rise}
use Rattle.readerloop.specs.Steps.{
  Fate,
  Plain,
  Admitted,
  Unserved,
  Unknown,
  TurnedAway,
  Received,
  Missed,
  Lacking,
  Step,
  Told,
  CutOff,
  Drains,
  Lacks,
  events_of,
  is_draining,
  once,
  reported,
  reported_by,
}
use Rattle.readerloop.proofs.LetGo.{events-append}
use Rattle.connection.specs.Causes.{IsOverWindow, WasCut, WasTurnedAway}
use Rattle.connection.specs.Limits.{
  AreJustified,
  EndsLast,
  IsJustified,
  IsOneTooMany,
  MayTurnAway,
  WasCutLast,
  WasDrained,
}
use Rattle.connection.proofs.Tallies.{came-more, came-with, cut-last, more-came}
use Rattle.connection.proofs.RunOrders.{Each, each-append, each-back, each-front}

pub justified-at : (later : List Step) (step : Step) (before : List Step)
    → AreJustified (later ++ step ∷ before) → IsJustified step before
justified-at [] step before just = just.0
justified-at (other ∷ later) step before just = justified-at later step before just.1

-- ---- numbers that rise

below : (last : ℕ) (ids : List ℕ) (id : ℕ) (more : List ℕ) → RiseFrom last (ids ++ id ∷ more)
    → Each (λ other. other < id) ids × (last < id)
below last [] id more rise = (tt, rise.0)
below last (first ∷ ids) id more rise =
    let rest = below first ids id more rise.1 in
    ((rest.1, rest.0), lt_trans rise.0 rest.1)

pub all-below : (ids : List ℕ) (id : ℕ) (more : List ℕ) → AreRising (ids ++ id ∷ more)
    → Each (λ other. other < id) ids
all-below [] id more rise = tt
all-below (first ∷ ids) id more rise =
    let rest = below first ids id more rise in
    (rest.1, rest.0)

all-of : (P : ℕ → Type 0) (ids : List ℕ) → Each P ids → All P ids
all-of P [] each = All-nil P
all-of P (id ∷ ids) each = All-cons P id ids each.0 (all-of P ids each.1)

-- ---- the calls that were admitted began

one-began : (P : ℕ → Type 0) (event : InEvent) (fate : Fate) → Each P (openings (event ∷ []))
    → Each P (once (reported_by (Told event fate)))
one-began P (events.Open id head) Admitted all = (all.0, tt)
one-began P (events.Open id head) (Unserved why) all = (all.0, tt)
one-began P (events.Open id head) Plain all = tt
one-began P (events.Open id head) Unknown all = tt
one-began P (events.Open id head) (TurnedAway fault) all = tt
one-began P (events.Open id head) (Received receipt) all = tt
one-began P (events.Open id head) Missed all = tt
one-began P (events.Open id head) Lacking all = tt
one-began P (events.BadHead id fault) fate all = tt
one-began P (events.Data id piece counted) fate all = tt
one-began P (events.Loose counted) fate all = tt
one-began P (events.End id) fate all = tt
one-began P (events.Reset id code) fate all = tt
one-began P (events.StreamError id code) fate all = tt
one-began P (events.Control control) fate all = tt
one-began P events.PeerGoaway fate all = tt
one-began P (events.Fatal cause) fate all = tt

pub all-began : (P : ℕ → Type 0) (told : List Step) → Each P (openings (events_of told))
    → Each P (reported told)
all-began P [] all = tt
all-began P (CutOff id ∷ before) all =
    each-append P (reported before) [] (all-began P before all) tt
all-began P (Drains ∷ before) all = each-append P (reported before) [] (all-began P before all) tt
all-began P (Lacks ∷ before) all = each-append P (reported before) [] (all-began P before all) tt
all-began P (Told event fate ∷ before) all =
    let parts =
    subst (λ (ids : List ℕ). Each P ids)
    (flat_map-append opening_of (events_of before) (event ∷ [])) all in
    each-append P (reported before) (once (reported_by (Told event fate)))
    (all-began P before (each-front P (openings (events_of before)) (openings (event ∷ [])) parts))
    (one-began P event fate
    (each-back P (openings (events_of before)) (openings (event ∷ [])) parts))

-- the events before a stream that begins, it, and those behind it
pub parts-at : (all : List InEvent) (told later : List Step) (id : ℕ) (head : CallHead)
    (fate : Fate) (before : List Step)
    → told ≡ later ++ Told (events.Open id head) fate ∷ before
    → (front : IsPrefix (events_of told) all)
    → all ≡ events_of before ++ events.Open id head ∷ (events_of later ++ front.0)
parts-at all told later id head fate before is front =
    let here = events_of before ++ events.Open id head ∷ [] in
    sym front.1
    ∙ (ap (λ (steps : List Step). events_of steps ++ front.0) is
    ∙ (ap (λ (es : List InEvent). es ++ front.0)
    (events-append later (Told (events.Open id head) fate ∷ before))
    ∙ (append_assoc here (events_of later) front.0
    ∙ append_assoc (events_of before) (events.Open id head ∷ []) (events_of later ++ front.0))))

lesser-at : (came : List ℕ) (all : List InEvent) (told later : List Step) (id : ℕ) (head : CallHead)
    (fate : Fate) (before : List Step)
    → Events came all
    → told ≡ later ++ Told (events.Open id head) fate ∷ before → IsPrefix (events_of told) all
    → All (λ other. other < id) (reported before)
lesser-at came all told later id head fate before are is front =
    let more = events_of later ++ front.0 in
    let rise : AreRising (openings (events_of before) ++ id ∷ openings more) =
    subst (λ (ids : List ℕ). AreRising ids)
    (ap openings (parts-at all told later id head fate before is front)
    ∙ flat_map-append opening_of (events_of before) (events.Open id head ∷ more))
    (events_rise came all are) in
    all-of _ (reported before)
    (all-began _ before (all-below (openings (events_of before)) id (openings more) rise))

pub one-too-many : (came : List ℕ) (all : List InEvent) (told : List Step) (id : ℕ)
    → Events came all → IsPrefix (events_of told) all → AreJustified told → WasTurnedAway id told
    → IsOneTooMany id told ⊎ WasDrained id told
one-too-many came all told id are front just was = by was.refuses
  where
    of : (fault : AdmitFault) → was.fault ≡ fault
        → told ≡ was.heard.0 ++ Told (events.Open id was.head) (TurnedAway fault) ∷ was.before
    of fault is =
        was.heard.1
        ∙ ap (λ (f : AdmitFault).
        was.heard.0 ++ Told (events.Open id was.head) (TurnedAway f) ∷ was.before) is

    may : (fault : AdmitFault) → was.fault ≡ fault
        → MayTurnAway (length (reported was.before)) (is_draining was.before) fault
    may fault is =
        justified-at was.heard.0 (Told (events.Open id was.head) (TurnedAway fault)) was.before
        (subst (λ (steps : List Step). AreJustified steps) (of fault is) just)

    by : (was.fault ≡ refused.TooMany) ⊎ (was.fault ≡ refused.Draining)
        → IsOneTooMany id told ⊎ WasDrained id told
    by (inl is) = inl (record {
      head = was.head;
      before = was.before;
      later = was.heard.0;
      parts = of refused.TooMany is;
      many = may refused.TooMany is;
      lesser =
          lesser-at came all told was.heard.0 id was.head (TurnedAway was.fault) was.before are
          was.heard.1 front;
    })
    by (inr is) =
        inr (record {
          head = was.head;
          before = was.before;
          later = was.heard.0;
          parts = of refused.Draining is;
          draining = may refused.Draining is;
        })

-- ---- bytes past a window

came-least : (given all : List InEvent) → IsPrefix given all → counted_told given ≤ counted_told all
came-least given all front =
    subst (λ (es : List InEvent). counted_told given ≤ counted_told es) front.1
    (more-came given front.0)

pub over-window : (came : List ℕ) (given : List InEvent) (entries : List Entry)
    (told : List Step) (id : ℕ)
    → Framed came given entries → IsPrefix (events_of told) given → AreJustified told
    → IsOverWindow id told → 65535 < payloads entries
over-window came given entries told id framed front just over =
    let event = events.Data id over.piece over.counted in
    let step = Told event (Received CallWindow) in
    let past : 65535 < counted_told (events_of over.before) + counted_by event =
    justified-at over.heard.0 step over.before
    (subst (λ (steps : List Step). AreJustified steps) over.heard.1 just) in
    let told-so : counted_told (events_of (step ∷ over.before)) ≤ counted_told (events_of told) =
    subst (λ (steps : List Step).
    counted_told (events_of (step ∷ over.before)) ≤ counted_told (events_of steps))
    (sym over.heard.1) (came-more over.heard.0 (step ∷ over.before)) in
    omega (
      arith,
      past,
      came-with over.before event (Received CallWindow),
      told-so,
      came-least (events_of told) given front,
      told_within came given entries framed,
    )

-- ---- the end of the input

pub cancelled-last : (told : List Step) (id : ℕ) → EndsLast told → WasCut id told
    → WasCutLast id told
cancelled-last told id ends was = record {
  before = was.before;
  later = was.heard.0;
  parts = was.heard.1;
  silent =
      cut-last id ends.cuts ends.heard was.heard.0 was.before (sym ends.parts ∙ was.heard.1)
      ends.silent ends.going;
}
