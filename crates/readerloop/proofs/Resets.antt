-- Why the half of a call was reset though its client ended it: a reset of the stream is among the
-- orders.
use Rattle.std.proofs.Common.{
  ◌≡◌,
  ◌∙◌,
  ◌⊎◌,
  inl,
  inr,
  ℕ,
  Bool,
  true,
  false,
  true≢false,
  nat_eq,
  List,
  [],
  ◌∷◌,
  ◌++◌,
  Option,
  None,
  Some,
  ap,
  eqb-true,
  refl,
  subst,
  sym,
}
use Rattle.std.specs.List.{list_any}
use Rattle.std.proofs.lemmas.List.Folds.{list_any-append}
use Rattle.outwriter.specs.declared.control.WriterOrder.TheVariants.{Reset}
use Rattle.std.specs.Prelude.{◌||◌, IfSome, if◌then◌else◌}
use Rattle.std.proofs.lemmas.Bool.{and_parts}
use Rattle.std.specs.Option.{is_some}
use Rattle.connbook.specs.declared.answers.Receipt.TheVariants.{Feed, Discard, CallWindow, Overrun}
use Rattle.h2frame.specs.declared.error_code.ErrorCode.TheVariants.{
  FlowControlError,
  Cancel,
  EnhanceYourCalm,
}
use Rattle.account.specs.declared.call.Shut.TheVariants as shut
use Rattle.outwriter.specs.Steps.{Order}
use Rattle.session.specs.declared.event.InEvent.{InEvent}
use Rattle.session.specs.declared.event.InEvent.TheVariants as events
use Rattle.session.specs.Trailers.{is_stream_error}
use Rattle.readerloop.specs.Calls.{is_admitted}
use Rattle.connbook.specs.declared.answers.AdmitFault.{AdmitFault}
use Rattle.connbook.specs.declared.answers.AdmitFault.TheVariants as refused
use Rattle.readerloop.specs.Orders.{
  IsReset,
  ends_at,
  ends_by,
  ends_if_refused,
  is_fed,
  orders_at,
  orders_by,
}
use Rattle.readerloop.specs.Reports.{AreCalm, WasResetFor, is_heard_out}
use Rattle.readerloop.specs.Steps.{
  NoWorker,
  Stopped,
  Fate,
  Plain,
  Admitted,
  Unserved,
  Unknown,
  TurnedAway,
  Received,
  Missed,
  Lacking,
  ShutAs,
  Step,
  Told,
  CutOff,
  Drains,
  Lacks,
  admitted_by,
  closing_at,
  closing_by,
  events_of,
  is_of,
  lets_go,
  lost,
  shut_by,
  since,
}
use Rattle.readerloop.proofs.EndLemmas.{shut-is-closed as shut-kind}
use Rattle.readerloop.proofs.LetGo.{let-go-before}

-- ---- among orders

pub reset-left : (id : ℕ) (first more : List Order) → IsReset id first → IsReset id (first ++ more)
reset-left id [] more is = absurd is
reset-left id (order ∷ first) more (inl here) = inl here
reset-left id (order ∷ first) more (inr rest) = inr (reset-left id first more rest)

pub reset-right : (id : ℕ) (first more : List Order) → IsReset id more → IsReset id (first ++ more)
reset-right id [] more is = is
reset-right id (order ∷ first) more is = inr (reset-right id first more is)

-- ---- the order of a step

lost-resets : (id : ℕ) (piece : List ℕ) (counted code : ℕ) (fate : Fate) (before : List Step)
    → lost piece fate ≡ Some (ShutAs (shut.Reset code))
    → ends_at (Told (events.Data id piece counted) fate) ≡ None
    → IsReset id (orders_at before (Told (events.Data id piece counted) fate))
lost-resets id [] counted code (Received Discard) before lets calm = absurd cc
lost-resets id (byte ∷ bytes) counted code (Received Discard) before lets calm = absurd cc
lost-resets id piece counted code (Received CallWindow) before lets calm =
    inl (FlowControlError, refl)
lost-resets id piece counted code (Received Overrun) before lets calm = absurd cc
lost-resets id piece counted code (Received Feed) before lets calm = absurd cc
lost-resets id piece counted code Missed before lets calm = inl (EnhanceYourCalm, refl)
lost-resets id piece counted code Plain before lets calm = absurd cc
lost-resets id piece counted code Admitted before lets calm = absurd cc
lost-resets id piece counted code Unknown before lets calm = absurd cc
lost-resets id piece counted code (TurnedAway fault) before lets calm = absurd cc
lost-resets id piece counted code (Unserved why) before lets calm = absurd cc
lost-resets id piece counted code Lacking before lets calm = absurd cc

cut-resets : (id : ℕ) (before : List Step) → is_fed id before ≡ true
    → IsReset id (orders_at before (CutOff id))
cut-resets id before fed = rw fed (inl (Cancel, refl))

found-here : {A : Type 0} (here : Bool) (found : Option A) (x : A)
    → (if here then found else None) ≡ Some x → found ≡ Some x
found-here true found x e = e
found-here false found x e = absurd cc

at-resets : (id code : ℕ) (step : Step) (before : List Step) → is_fed id before ≡ true
    → lets_go id step ≡ true → closing_at id step ≡ Some (ShutAs (shut.Reset code))
    → ends_at step ≡ None → IsReset id (orders_at before step)
at-resets id code (Told (events.Data other piece counted) fate) before fed lets closes calm =
    let parts = and_parts (nat_eq id other) (is_some (lost piece fate)) lets in
    subst (λ (n : ℕ). IsReset id (orders_at before (Told (events.Data n piece counted) fate)))
    (eqb-true id other parts.0)
    (lost-resets id piece counted code fate before
    (found-here (nat_eq id other) (lost piece fate) (ShutAs (shut.Reset code)) closes) calm)
at-resets id code (CutOff other) before fed lets closes calm =
    subst (λ (n : ℕ). IsReset id (orders_at before (CutOff n))) (eqb-true id other lets)
    (cut-resets id before fed)
at-resets id code Drains before fed lets closes calm = absurd cc
at-resets id code Lacks before fed lets closes calm = absurd cc
at-resets id code (Told (events.End other) fate) before fed lets closes calm = absurd cc
at-resets id code (Told (events.Reset other error) fate) before fed lets closes calm = absurd cc
at-resets id code (Told (events.StreamError other error) fate) before fed lets
    closes calm = absurd cc
at-resets id code (Told (events.Open other head) fate) before fed lets closes calm = absurd cc
at-resets id code (Told (events.BadHead other fault) fate) before fed lets closes calm = absurd cc
at-resets id code (Told (events.Loose counted) fate) before fed lets closes calm = absurd cc
at-resets id code (Told (events.Control control) fate) before fed lets closes calm = absurd cc
at-resets id code (Told events.PeerGoaway fate) before fed lets closes calm = absurd cc
at-resets id code (Told (events.Fatal cause) fate) before fed lets closes calm = absurd cc

-- ---- of all steps

by-resets : (id : ℕ) (later : List Step) (step : Step) (before : List Step)
    → IsReset id (orders_at before step) → IsReset id (orders_by (later ++ step ∷ before))
by-resets id [] step before is = reset-right id (orders_by before) (orders_at before step) is
by-resets id (other ∷ later) step before is =
    reset-left id (orders_by (later ++ step ∷ before)) (orders_at (later ++ step ∷ before) other)
    (by-resets id later step before is)

calm-at : (later : List Step) (step : Step) (before : List Step) → AreCalm (later ++ step ∷ before)
    → ends_at step ≡ None
calm-at [] step before calm = calm.0
calm-at (other ∷ later) step before calm = calm-at later step before calm.1

fed-now : (id : ℕ) (before : List Step) → is_admitted id before ≡ true
    → closing_by id (since id before) ≡ None → is_fed id before ≡ true
fed-now id before known unshut = rw (known, unshut) refl

-- ---- an error of the stream is always ordered

either : (a b : Bool) → (a || b) ≡ true → (a ≡ true) ⊎ (b ≡ true)
either true b e = inl refl
either false b e = inr e

event-orders : (id : ℕ) (event : InEvent) (fate : Fate) (before : List Step)
    → is_stream_error id event ≡ true → IsReset id (orders_at before (Told event fate))
event-orders id (events.StreamError other code) fate before error =
    inl (code, ap (λ (n : ℕ). Reset n code true) (sym (eqb-true id other error)))
event-orders id (events.Data other piece counted) fate before error = absurd cc
event-orders id (events.End other) fate before error = absurd cc
event-orders id (events.Reset other code) fate before error = absurd cc
event-orders id (events.Open other head) fate before error = absurd cc
event-orders id (events.BadHead other fault) fate before error = absurd cc
event-orders id (events.Loose counted) fate before error = absurd cc
event-orders id (events.Control control) fate before error = absurd cc
event-orders id events.PeerGoaway fate before error = absurd cc
event-orders id (events.Fatal cause) fate before error = absurd cc

step-orders : (id : ℕ) (step : Step) (heard before : List Step)
    → list_any (is_stream_error id) (events_of (step ∷ heard)) ≡ true
    → (list_any (is_stream_error id) (events_of heard) ≡ true) ⊎ IsReset id (orders_at before step)
step-orders id (CutOff other) heard before error = inl error
step-orders id Drains heard before error = inl error
step-orders id Lacks heard before error = inl error
step-orders id (Told event fate) heard before error =
    elim (either (list_any (is_stream_error id) (events_of heard))
    (list_any (is_stream_error id) (event ∷ []))
    (sym (list_any-append (is_stream_error id) (events_of heard) (event ∷ [])) ∙ error)) [
      | inl earlier ↦ inl earlier
      | inr here ↦ elim (either (is_stream_error id event) false here) [
        | inl this ↦ inr (event-orders id event fate before this)
        | inr none ↦ absurd (true≢false (sym none))
      ]
    ]

error-orders : (id : ℕ) (told : List Step)
    → list_any (is_stream_error id) (events_of (since id told)) ≡ true → IsReset id (orders_by told)
error-orders id [] error = absurd cc
error-orders id (step ∷ before) error =
    by (is_of id (admitted_by step)) (λ earlier. error-orders id before earlier) error
  where
    by : (b : Bool)
        → (list_any (is_stream_error id) (events_of (since id before)) ≡ true
        → IsReset id (orders_by before))
        → list_any (is_stream_error id) (events_of (if b then [] else step ∷ since id before))
        ≡ true
        → IsReset id (orders_by before ++ orders_at before step)
    by true earlier-orders error = absurd cc
    by false earlier-orders error =
        elim (step-orders id step (since id before) before error) [
          | inl earlier ↦
              reset-left id (orders_by before) (orders_at before step) (earlier-orders earlier)
          | inr here ↦ reset-right id (orders_by before) (orders_at before step) here
        ]

reset-no-end : (code : ℕ) → ShutAs (shut.Reset code) ≡ ShutAs shut.End → ⊥
reset-no-end code e = cc

shut-is-closed : (id : ℕ) (told : List Step) (code : ℕ)
    → shut_by id (since id told) ≡ Some (shut.Reset code)
    → closing_by id (since id told) ≡ Some (ShutAs (shut.Reset code))
shut-is-closed id told code closed = shut-kind id (since id told) (shut.Reset code) closed

pub reset-ordered : (told : List Step) (id : ℕ) → AreCalm told → is_admitted id told ≡ true
    → WasResetFor told (orders_by told) id
reset-ordered told id calm known code (inr error) closed = error-orders id told error
reset-ordered told id calm known code (inl ended) closed =
    let kind = ShutAs (shut.Reset code) in
    let was =
    let-go-before id kind told (λ e. reset-no-end code e) known ended
    (shut-is-closed id told code closed) in
    subst (λ (steps : List Step). IsReset id (orders_by steps)) (sym was.parts)
    (by-resets id was.later was.step was.before
    (at-resets id code was.step was.before (fed-now id was.before was.known was.unshut)
    was.lets was.closes
    (calm-at was.later was.step was.before (subst AreCalm was.parts calm))))

pub calm-more : (more before : List Step) → AreCalm more → AreCalm before → AreCalm (more ++ before)
calm-more [] before calm rest = rest
calm-more (step ∷ more) before calm rest = (calm.0, calm-more more before calm.1 rest)

-- ---- a step that ends the connection does so with an error

refused-harsh : (fault : AdmitFault)
    → IfSome (ends_if_refused fault) (λ end. is_heard_out end ≡ false)
refused-harsh refused.TooMany = tt
refused-harsh refused.Draining = tt
refused-harsh refused.NotNew = refl
refused-harsh refused.OutOfMemory = refl

by-harsh : (fate : Fate) → IfSome (ends_by fate) (λ end. is_heard_out end ≡ false)
by-harsh Plain = tt
by-harsh Admitted = tt
by-harsh Unknown = tt
by-harsh (TurnedAway fault) = refused-harsh fault
by-harsh (Received Feed) = tt
by-harsh (Received Discard) = tt
by-harsh (Received CallWindow) = tt
by-harsh (Received Overrun) = refl
by-harsh Missed = tt
by-harsh Lacking = refl
by-harsh (Unserved NoWorker) = refl
by-harsh (Unserved Stopped) = tt

pub ends-harsh : (step : Step) → IfSome (ends_at step) (λ end. is_heard_out end ≡ false)
ends-harsh (Told (events.Fatal cause) fate) = refl
ends-harsh (Told (events.Open id head) fate) = by-harsh fate
ends-harsh (Told (events.BadHead id fault) fate) = by-harsh fate
ends-harsh (Told (events.Data id piece counted) fate) = by-harsh fate
ends-harsh (Told (events.Loose counted) fate) = by-harsh fate
ends-harsh (Told (events.End id) fate) = by-harsh fate
ends-harsh (Told (events.Reset id code) fate) = by-harsh fate
ends-harsh (Told (events.StreamError id code) fate) = by-harsh fate
ends-harsh (Told (events.Control control) fate) = by-harsh fate
ends-harsh (Told events.PeerGoaway fate) = by-harsh fate
ends-harsh (CutOff id) = tt
ends-harsh Drains = tt
ends-harsh Lacks = refl
