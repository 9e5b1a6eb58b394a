-- What reset a half whose client ended its stream.
use Rattle.std.proofs.Common.{
  ◌≡◌,
  ◌∙◌,
  ℕ,
  Bool,
  true,
  false,
  nat_eq,
  ◌&&◌,
  List,
  [],
  ◌∷◌,
  ◌++◌,
  Option,
  None,
  Some,
  ap,
  append-nil,
  append_assoc,
  refl,
  subst,
  sym,
}
use Rattle.std.specs.Prelude.{if◌then◌else◌}
use Rattle.std.specs.List.{list_any}
use Rattle.std.specs.Option.{is_some}
use Rattle.account.specs.declared.call.Shut.TheVariants as shut
use Rattle.session.specs.declared.event.InEvent.{InEvent}
use Rattle.session.specs.declared.event.InEvent.TheVariants as events
use Rattle.session.specs.StreamData.{
  Ending,
  Unended,
  Finished,
  Aborted,
  end_told,
  ending_told,
  first_end,
}
use Rattle.session.proofs.StreamEnds.{told_append}
use Rattle.readerloop.specs.Steps.{
  Closing,
  ShutAs,
  Step,
  Told,
  CutOff,
  Drains,
  Lacks,
  WasLetGo,
  admitted,
  admitted_by,
  earlier,
  events_of,
  is_of,
  lets_go,
  lost,
  closing_at,
  closing_by,
  since,
}
use Rattle.readerloop.proofs.EndLemmas.{known-before, quiet-open}

pub events-append : (more first : List Step)
    → events_of (more ++ first) ≡ events_of first ++ events_of more
events-append [] first = sym (append-nil (events_of first))
events-append (Told event fate ∷ more) first =
    ap (λ (es : List InEvent). es ++ event ∷ []) (events-append more first)
    ∙ append_assoc (events_of first) (events_of more) (event ∷ [])
events-append (CutOff id ∷ more) first = events-append more first
events-append (Drains ∷ more) first = events-append more first
events-append (Lacks ∷ more) first = events-append more first

-- ---- the step that shut it

-- the first step since the call was admitted that shuts its half
record IsFirst (id : ℕ) (kind : Closing) (told : List Step) : Type 0 where
  later : List Step
  step : Step
  before : List Step
  parts : told ≡ later ++ step ∷ before
  heard : since id told ≡ later ++ step ∷ since id before
  known : list_any (nat_eq id) (admitted before) ≡ true
  unshut : closing_by id (since id before) ≡ None
  shuts : closing_at id step ≡ Some kind

first-with : (id : ℕ) (kind : Closing) (step : Step) (before : List Step) (here : Bool)
    (found : Option Closing)
    → is_of id (admitted_by step) ≡ here → closing_by id (since id before) ≡ found
    → ((other : Closing) → list_any (nat_eq id) (admitted before) ≡ true
    → closing_by id (since id before) ≡ Some other → IsFirst id other before)
    → list_any (nat_eq id) (admitted (step ∷ before)) ≡ true
    → closing_by id (if here then [] else step ∷ since id before) ≡ Some kind
    → IsFirst id kind (step ∷ before)
first-with id kind step before true found is at behind there closed = absurd cc
first-with id kind step before false None is unshut behind there closed = record {
  later = [];
  step = step;
  before = before;
  parts = refl;
  heard = ap (λ (b : Bool). if b then [] else step ∷ since id before) is;
  known = known-before id step before is there;
  unshut = unshut;
  shuts = sym (ap (λ (found : Option Closing). earlier found (closing_at id step)) unshut) ∙ closed;
}
first-with id kind step before false (Some other) is at behind there closed =
    let same : Some other ≡ Some kind =
    sym (ap (λ (found : Option Closing). earlier found (closing_at id step)) at) ∙ closed in
    let first = behind kind (known-before id step before is there) (at ∙ same) in
    record {
      later = step ∷ first.later;
      step = first.step;
      before = first.before;
      parts = ap (λ (steps : List Step). step ∷ steps) first.parts;
      heard =
          ap (λ (b : Bool). if b then [] else step ∷ since id before) is
          ∙ ap (λ (steps : List Step). step ∷ steps) first.heard;
      known = first.known;
      unshut = first.unshut;
      shuts = first.shuts;
    }

first-shuts : (id : ℕ) (kind : Closing) (told : List Step)
    → list_any (nat_eq id) (admitted told) ≡ true → closing_by id (since id told) ≡ Some kind
    → IsFirst id kind told
first-shuts id kind [] there closed = absurd cc
first-shuts id kind (step ∷ before) there closed =
    first-with id kind step before (is_of id (admitted_by step)) (closing_by id (since id before))
    refl refl (λ other. first-shuts id other before) there closed

-- ---- it lets the half go

-- what is told behind a step, where nothing was told before it
abbrev Behind : ℕ → Step → Ending → Type 0
Behind id (Told event fate) behind = first_end (end_told id event) behind ≡ Finished
Behind id (CutOff other) behind = behind ≡ Finished
Behind id Drains behind = behind ≡ Finished
Behind id Lacks behind = behind ≡ Finished

abbrev LetsGo : ℕ → Step → Ending → Type 0
LetsGo id step behind = (lets_go id step ≡ true) × (behind ≡ Finished)

-- a reset or an error of the stream is an end of its own
aborts : (here : Bool) (number : ℕ) (closing : Closing) (behind : Ending)
    → (if here then Some (ShutAs (shut.Reset number)) else None) ≡ Some closing
    → first_end (if here then Aborted else Unended) behind ≡ Finished → ⊥
aborts true number closing behind e ends = cc
aborts false number closing behind e ends = cc

ends-so : (here : Bool) (closing : Closing) → (closing ≡ ShutAs shut.End → ⊥)
    → (if here then Some (ShutAs shut.End) else None) ≡ Some closing → ⊥
ends-so true closing not e = not (let same : ShutAs shut.End ≡ closing = cc in sym same)
ends-so false closing not e = cc

lost-here : (here : Bool) (found : Option Closing) (closing : Closing)
    → (if here then found else None) ≡ Some closing → (here && is_some found) ≡ true
lost-here true None closing e = absurd cc
lost-here true (Some kind) closing e = refl
lost-here false found closing e = absurd cc

cut-here : (here : Bool) (kind closing : Closing)
    → (if here then Some kind else None) ≡ Some closing → here ≡ true
cut-here true kind closing e = refl
cut-here false kind closing e = absurd cc

lets-go : (id : ℕ) (closing : Closing) (step : Step) (behind : Ending)
    → (closing ≡ ShutAs shut.End → ⊥) → closing_at id step ≡ Some closing → Behind id step behind
    → LetsGo id step behind
lets-go id closing (Told (events.Data other piece counted) fate) behind not closes ends =
    (lost-here (nat_eq id other) (lost piece fate) closing closes, ends)
lets-go id closing (Told (events.End other) fate) behind not closes ends =
    absurd (ends-so (nat_eq id other) closing not closes)
lets-go id closing (Told (events.Reset other error) fate) behind not closes ends =
    absurd (aborts (nat_eq id other) _ closing behind closes ends)
lets-go id closing (Told (events.StreamError other error) fate) behind not closes ends =
    absurd (aborts (nat_eq id other) _ closing behind closes ends)
lets-go id closing (Told (events.Open other head) fate) behind not closes ends = absurd cc
lets-go id closing (Told (events.BadHead other fault) fate) behind not closes ends = absurd cc
lets-go id closing (Told (events.Loose counted) fate) behind not closes ends = absurd cc
lets-go id closing (Told (events.Control control) fate) behind not closes ends = absurd cc
lets-go id closing (Told events.PeerGoaway fate) behind not closes ends = absurd cc
lets-go id closing (Told (events.Fatal cause) fate) behind not closes ends = absurd cc
lets-go id closing Drains behind not closes ends = absurd cc
lets-go id closing Lacks behind not closes ends = absurd cc
lets-go id closing (CutOff other) behind not closes ends =
    (cut-here (nat_eq id other) _ closing closes, ends)

-- what is told behind a step of a half that was not shut is told behind all steps
told-behind : (id : ℕ) (step : Step) (before later : List Step) → closing_by id before ≡ None
    → ending_told id (events_of (later ++ step ∷ before)) ≡ Finished
    → Behind id step (ending_told id (events_of later))
told-behind id (Told event fate) before later unshut ends =
    let all : ending_told id (events_of (later ++ Told event fate ∷ before)) ≡ first_end
    (end_told id event) (ending_told id (events_of later)) =
    ap (ending_told id) (events-append later (Told event fate ∷ before)
    ∙ append_assoc (events_of before) (event ∷ []) (events_of later))
    ∙ told_append id (events_of before) (event ∷ events_of later)
    ∙ ap (λ (e : Ending). first_end e (ending_told id (event ∷ events_of later)))
    (quiet-open id before unshut) in
    sym all ∙ ends
told-behind id (CutOff other) before later unshut ends =
    let all : ending_told id (events_of (later ++ CutOff other ∷ before)) ≡ ending_told id
    (events_of later) =
    ap (ending_told id) (events-append later (CutOff other ∷ before))
    ∙ told_append id (events_of before) (events_of later)
    ∙ ap (λ (e : Ending). first_end e (ending_told id (events_of later)))
    (quiet-open id before unshut) in
    sym all ∙ ends
told-behind id Drains before later unshut ends =
    let all : ending_told id (events_of (later ++ Drains ∷ before)) ≡ ending_told id
    (events_of later) =
    ap (ending_told id) (events-append later (Drains ∷ before))
    ∙ told_append id (events_of before) (events_of later)
    ∙ ap (λ (e : Ending). first_end e (ending_told id (events_of later)))
    (quiet-open id before unshut) in
    sym all ∙ ends
told-behind id Lacks before later unshut ends =
    let all : ending_told id (events_of (later ++ Lacks ∷ before)) ≡ ending_told id
    (events_of later) =
    ap (ending_told id) (events-append later (Lacks ∷ before))
    ∙ told_append id (events_of before) (events_of later)
    ∙ ap (λ (e : Ending). first_end e (ending_told id (events_of later)))
    (quiet-open id before unshut) in
    sym all ∙ ends

pub let-go-before : (id : ℕ) (closing : Closing) (told : List Step)
    → (closing ≡ ShutAs shut.End → ⊥) → list_any (nat_eq id) (admitted told) ≡ true
    → ending_told id (events_of (since id told)) ≡ Finished
    → closing_by id (since id told) ≡ Some closing → WasLetGo id closing told
let-go-before id closing told not there ends closed =
    let first = first-shuts id closing told there closed in
    let behind =
    told-behind id first.step (since id first.before) first.later first.unshut
    (subst (λ (steps : List Step). ending_told id (events_of steps) ≡ Finished) first.heard ends) in
    let lets =
    lets-go id closing first.step (ending_told id (events_of first.later)) not first.shuts behind in
    record {
      later = first.later;
      step = first.step;
      before = first.before;
      parts = first.parts;
      heard = first.heard;
      known = first.known;
      unshut = first.unshut;
      lets = lets.0;
      closes = first.shuts;
      ended = lets.1;
    }
