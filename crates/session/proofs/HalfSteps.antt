-- What the half of a stream comes to by one event, and by a frame with its verdict.
use Rattle.std.proofs.Common.{
  ◌≡◌,
  ◌≢◌,
  ℕ,
  ◌⊎◌,
  inl,
  inr,
  Bool,
  true,
  false,
  ◌&&◌,
  not,
  nat_eq,
  List,
  ◌∷◌,
  length,
  refl,
  sym,
  ap,
  subst,
  ◌∙◌,
}
use Rattle.std.specs.Prelude.{Option, Some, None, nat_lt, if◌then◌else◌}
use Rattle.std.proofs.lemmas.Bool.{cases_Bool, eqb-true}
use Rattle.h2frame.specs.declared.error_code.ErrorCode.TheVariants.{ProtocolError}
use Rattle.h2frame.specs.declared.frame.FrameHead.{FrameHead}
use Rattle.h2frame.specs.declared.kind.FrameKind.{FrameKind}
use Rattle.h2frame.specs.declared.kind.FrameKind.TheVariants.{
  Data,
  Headers,
  RstStream,
  WindowUpdate,
}
use Rattle.h2frame.specs.Flags.{has, end_stream}
use Rattle.limits.specs.declared.TheConstants.{MAX_STREAMS}
use Rattle.streamstates.specs.declared.halves.HalfState.{HalfState}
use Rattle.streamstates.specs.declared.halves.HalfState.TheVariants.{Opened, Ended, Reset}
use Rattle.streamstates.specs.declared.halves.FrameAction.{FrameAction}
use Rattle.streamstates.specs.declared.halves.FrameAction.TheVariants.{
  Open,
  Accept,
  Discard,
  StreamError,
  ConnectionError,
}
use Rattle.streamstates.specs.Halves.{
  Event,
  Received,
  Cut,
  stream_of,
  is_headers,
  is_odd,
  is_above,
  begins,
  begun,
  Course,
  course,
  half,
  State,
  Idle,
  Skipped,
  Begun,
  state_of,
  state,
  kept,
  on_begun,
  on_idle,
  judged,
  verdict,
  half_after,
  half_of_new,
  is_connection_error,
  on_opened,
  on_ended,
  moved,
  is_reset_kind,
  is_last_of_kind,
}
use Rattle.streamstates.proofs.HalfLemmas.{kept-other, kept-begun, kept-new, kept-None}
use Rattle.session.specs.Streams.{after_frame}

-- what the half of a stream has come to, if the stream was begun
abbrev pub half_at : List Event → ℕ → Option HalfState
half_at history id = kept (state id history)

abbrev pub IsClosed : Option HalfState → Type 0
IsClosed o = (o ≡ Some Ended) ⊎ (o ≡ Some Reset)

-- ---- one event

pub step_other : (id : ℕ) (event : Event) (history : List Event)
    → nat_eq id (stream_of event) ≡ false → half_at (event ∷ history) id ≡ half_at history id
step_other id event history other = kept-other id event history other

step_here : (event : Event) (history : List Event) (now : HalfState)
    → half_at history (stream_of event) ≡ Some now
    → half_at (event ∷ history) (stream_of event) ≡ Some (half_after now event)
step_here event history now is = by (course (stream_of event) history) refl
  where
    by : (o : Option Course) → course (stream_of event) history ≡ o
        → half_at (event ∷ history) (stream_of event) ≡ Some (half_after now event)
    by None p =
        let none : half_at history (stream_of event) ≡ None =
        ap (λ o. kept (state_of (stream_of event) history o)) p
        ∙ kept-None (stream_of event) history in
        let wrong : Some now ≡ None = sym is ∙ none in cc
    by (Some c) p =
        let same : Some (half (stream_of event) c) ≡ Some now =
        sym (ap (λ o. kept (state_of (stream_of event) history o)) p) ∙ is in
        let half_is : half (stream_of event) c ≡ now = cc in
        kept-begun event history c p ∙ ap (λ h. Some (half_after h event)) half_is

pub step_begun : (id : ℕ) (event : Event) (history : List Event) (now : HalfState)
    → nat_eq id (stream_of event) ≡ true → half_at history id ≡ Some now
    → half_at (event ∷ history) id ≡ Some (half_after now event)
step_begun id event history now on is =
    let same : id ≡ stream_of event = eqb-true id (stream_of event) on in
    subst (λ (n : ℕ). half_at (event ∷ history) n ≡ Some (half_after now event)) (sym same)
    (step_here event history now (subst (λ (n : ℕ). half_at history n ≡ Some now) same is))

step_new_here : (event : Event) (history : List Event) → half_at history (stream_of event) ≡ None
    → begins event (begun history) ≡ true
    → half_at (event ∷ history) (stream_of event) ≡ Some (half_of_new event)
step_new_here event history none b = by (course (stream_of event) history) refl
  where
    by : (o : Option Course) → course (stream_of event) history ≡ o
        → half_at (event ∷ history) (stream_of event) ≡ Some (half_of_new event)
    by None p = kept-new event history p b
    by (Some c) p =
        let wrong : Some (half (stream_of event) c) ≡ None =
        sym (ap (λ o. kept (state_of (stream_of event) history o)) p) ∙ none in
        cc

pub step_new : (id : ℕ) (event : Event) (history : List Event) → nat_eq id (stream_of event) ≡ true
    → half_at history id ≡ None → begins event (begun history) ≡ true
    → half_at (event ∷ history) id ≡ Some (half_of_new event)
step_new id event history on none b =
    let same : id ≡ stream_of event = eqb-true id (stream_of event) on in
    subst (λ (n : ℕ). half_at (event ∷ history) n ≡ Some (half_of_new event)) (sym same)
    (step_new_here event history (subst (λ (n : ℕ). half_at history n ≡ None) same none) b)

-- a closed half stays closed
after_closed : (now : HalfState) (event : Event) → IsClosed (Some now)
    → IsClosed (Some (half_after now event))
after_closed Reset event closed = inr refl
after_closed Opened event (inl e) = absurd cc
after_closed Opened event (inr e) = absurd cc
after_closed Ended (Received head) closed = by head.kind
  where
    by : (kind : FrameKind)
        → IsClosed (Some (half_after Ended (Received
        (record { kind = kind; flags = head.flags; stream = head.stream; length = head.length }))))
    by RstStream = inr refl
    by _ = inl refl
after_closed Ended (Cut id) closed = inr refl

pub closed_some : (o : Option HalfState) → IsClosed o → (now : HalfState) × (o ≡ Some now)
closed_some None (inl e) = absurd cc
closed_some None (inr e) = absurd cc
closed_some (Some now) closed = (now, refl)

pub closed_stays : (id : ℕ) (event : Event) (history : List Event) → IsClosed (half_at history id)
    → IsClosed (half_at (event ∷ history) id)
closed_stays id event history closed =
    elim (cases_Bool (nat_eq id (stream_of event))) [
      | inl on ↦
          let now = closed_some (half_at history id) closed in
          subst IsClosed (sym (step_begun id event history now.0 on now.1))
          (after_closed now.0 event (subst IsClosed now.1 closed))
      | inr other ↦ subst IsClosed (sym (step_other id event history other)) closed
    ]

pub closed_after : (id : ℕ) (judged : FrameAction) (head : FrameHead) (history : List Event)
    → IsClosed (half_at history id) → IsClosed (half_at (after_frame judged head history) id)
closed_after id (StreamError error) head history closed =
    closed_stays id (Cut head.stream) (Received head ∷ history)
    (closed_stays id (Received head) history closed)
closed_after id Open head history closed = closed_stays id (Received head) history closed
closed_after id Accept head history closed = closed_stays id (Received head) history closed
closed_after id Discard head history closed = closed_stays id (Received head) history closed
closed_after id (ConnectionError error) head history closed =
    closed_stays id (Received head) history closed

-- a frame of another stream changes nothing
pub other_after : (id : ℕ) (judged : FrameAction) (head : FrameHead) (history : List Event)
    → nat_eq id head.stream ≡ false
    → half_at (after_frame judged head history) id ≡ half_at history id
other_after id (StreamError error) head history other =
    step_other id (Cut head.stream) (Received head ∷ history) other
    ∙ step_other id (Received head) history other
other_after id Open head history other = step_other id (Received head) history other
other_after id Accept head history other = step_other id (Received head) history other
other_after id Discard head history other = step_other id (Received head) history other
other_after id (ConnectionError error) head history other =
    step_other id (Received head) history other

-- ---- verdicts

begun_state : (s : State) (now : HalfState) → kept s ≡ Some now → s ≡ Begun now
begun_state Idle now e = absurd cc
begun_state Skipped now e = absurd cc
begun_state (Begun other) now e = let same : other ≡ now = cc in ap Begun same

pub verdict_begun : (id : ℕ) (history : List Event) (head : FrameHead) (now : HalfState)
    → nat_eq id head.stream ≡ true → half_at history id ≡ Some now
    → verdict history head ≡ on_begun now head
verdict_begun id history head now on is =
    let same : id ≡ head.stream = eqb-true id head.stream on in
    ap (λ (s : State). judged s head (length (begun history))) (begun_state
    (state head.stream history) now (subst (λ (n : ℕ). half_at history n ≡ Some now) same is))

-- fewer streams were begun than may be
abbrev pub IsFew : List Event → Type 0
IsFew history = nat_lt (length (begun history)) MAX_STREAMS ≡ true

idle_refused : (odd : Bool) → on_idle odd false true ≡ ConnectionError ProtocolError
idle_refused true = refl
idle_refused false = refl

-- a frame that isn't HEADERS, on a stream that wasn't begun
unbegun_judged : (s : State) (head : FrameHead) (count : ℕ) → kept s ≡ None
    → is_headers head.kind ≡ false → nat_lt count MAX_STREAMS ≡ true
    → judged s head count ≡ ConnectionError ProtocolError
unbegun_judged Idle head count e other few =
    ap (λ (b : Bool). on_idle (is_odd head.stream) b (nat_lt count MAX_STREAMS)) other
    ∙ ap (λ (b : Bool). on_idle (is_odd head.stream) false b) few
    ∙ idle_refused (is_odd head.stream)
unbegun_judged Skipped head count e other few = refl
unbegun_judged (Begun now) head count e other few = absurd cc

pub verdict_unbegun : (id : ℕ) (history : List Event) (head : FrameHead)
    → nat_eq id head.stream ≡ true → half_at history id ≡ None → IsFew history
    → is_headers head.kind ≡ false → verdict history head ≡ ConnectionError ProtocolError
verdict_unbegun id history head on none few other =
    let same : id ≡ head.stream = eqb-true id head.stream on in
    unbegun_judged (state head.stream history) head (length (begun history))
    (subst (λ (n : ℕ). half_at history n ≡ None) same none) other few

-- HEADERS on a stream that wasn't begun, which are no error of the connection, begin it
pub record Opens (history : List Event) (head : FrameHead) : Type 0 where
  pub begins : begins (Received head) (begun history) ≡ true
  pub verdict : verdict history head ≡ Open

-- the verdict of HEADERS on a stream that wasn't begun, by whether its number is odd, and above
-- those that were
abbrev pub first_verdict : Bool → Bool → Bool → Bool → FrameAction
first_verdict headers odd above few =
    if odd && not above then ConnectionError ProtocolError else on_idle odd headers few

first_opening : (headers odd above few : Bool) → headers ≡ true → few ≡ true
    → is_connection_error (first_verdict headers odd above few) ≡ false
    → ((headers && (odd && (above && few))) ≡ true) × (first_verdict headers odd above few ≡ Open)
first_opening true true true true kind is live = (refl, refl)
first_opening true true true false kind is live = absurd cc
first_opening true true false few kind is live = absurd cc
first_opening true false above few kind is live = absurd cc
first_opening false odd above few kind is live = absurd cc

judged_first : (skipped : Bool) (head : FrameHead) (count : ℕ)
    → judged (if skipped then Skipped else Idle) head count
    ≡ (if skipped then ConnectionError ProtocolError
    else on_idle (is_odd head.stream) (is_headers head.kind) (nat_lt count MAX_STREAMS))
judged_first true head count = refl
judged_first false head count = refl

pub first_state : (history : List Event) (head : FrameHead) → half_at history head.stream ≡ None
    → verdict history head
    ≡ first_verdict (is_headers head.kind) (is_odd head.stream)
    (is_above (begun history) head.stream) (nat_lt (length (begun history)) MAX_STREAMS)
first_state history head none = by (course head.stream history) refl
  where
    by : (o : Option Course) → course head.stream history ≡ o
        → verdict history head
        ≡ first_verdict (is_headers head.kind) (is_odd head.stream)
        (is_above (begun history) head.stream) (nat_lt (length (begun history)) MAX_STREAMS)
    by None p =
        ap (λ o. judged (state_of head.stream history o) head (length (begun history))) p
        ∙ judged_first (is_odd head.stream && not (is_above (begun history) head.stream)) head
        (length (begun history))
    by (Some c) p =
        let wrong : Some (half head.stream c) ≡ None =
        sym (ap (λ o. kept (state_of head.stream history o)) p) ∙ none in
        cc

pub headers_open : (id : ℕ) (history : List Event) (head : FrameHead) → nat_eq id head.stream ≡ true
    → half_at history id ≡ None → IsFew history → is_headers head.kind ≡ true
    → is_connection_error (verdict history head) ≡ false → Opens history head
headers_open id history head on none few kind live =
    let same : id ≡ head.stream = eqb-true id head.stream on in
    let first = first_state history head (subst (λ (n : ℕ). half_at history n ≡ None) same none) in
    let opening =
    first_opening (is_headers head.kind) (is_odd head.stream) (is_above (begun history) head.stream)
    (nat_lt (length (begun history)) MAX_STREAMS) kind few
    (subst (λ (v : FrameAction). is_connection_error v ≡ false) first live) in
    record { begins = opening.0; verdict = first ∙ opening.1 }

-- ---- once so many streams were begun as may be

abbrev pub IsFull : List Event → Type 0
IsFull history = nat_lt (length (begun history)) MAX_STREAMS ≡ false

none_begins : (headers odd above few : Bool) → few ≡ false
    → (headers && (odd && (above && few))) ≡ false
none_begins false odd above few full = refl
none_begins true false above few full = refl
none_begins true true false few full = refl
none_begins true true true few full = full

full_begins : (event : Event) (history : List Event) → IsFull history
    → begins event (begun history) ≡ false
full_begins (Received head) history full =
    none_begins (is_headers head.kind) (is_odd head.stream) (is_above (begun history) head.stream)
    (nat_lt (length (begun history)) MAX_STREAMS) full
full_begins (Cut id) history full = refl

-- no event begins another
pub full_stays : (event : Event) (history : List Event) → IsFull history → IsFull (event ∷ history)
full_stays event history full =
    ap (λ (b : Bool).
    nat_lt (length (if b then stream_of event ∷ begun history else begun history)) MAX_STREAMS)
    (full_begins event history full)
    ∙ full

pub full_after : (judged : FrameAction) (head : FrameHead) (history : List Event) → IsFull history
    → IsFull (after_frame judged head history)
full_after (StreamError error) head history full =
    full_stays (Cut head.stream) (Received head ∷ history) (full_stays (Received head) history full)
full_after Open head history full = full_stays (Received head) history full
full_after Accept head history full = full_stays (Received head) history full
full_after Discard head history full = full_stays (Received head) history full
full_after (ConnectionError error) head history full = full_stays (Received head) history full

idle_not_open : (odd headers few : Bool) → few ≡ false → on_idle odd headers few ≢ Open
idle_not_open true headers false full e = cc
idle_not_open true headers true full e = cc
idle_not_open false headers few full e = cc

opened_not_open : (kind : FrameKind) (last : Bool) → on_opened kind last ≢ Open
opened_not_open Headers false e = cc
opened_not_open Headers true e = cc
opened_not_open _ last e = cc

ended_not_open : (kind : FrameKind) → on_ended kind ≢ Open
ended_not_open Data e = cc
ended_not_open Headers e = cc
ended_not_open _ e = cc

pub begun_not_open : (now : HalfState) (head : FrameHead) → on_begun now head ≢ Open
begun_not_open Opened head e = opened_not_open head.kind (has end_stream head.flags) e
begun_not_open Ended head e = ended_not_open head.kind e
begun_not_open Reset head e = cc

full_judged : (s : State) (head : FrameHead) (count : ℕ) → nat_lt count MAX_STREAMS ≡ false
    → judged s head count ≢ Open
full_judged Idle head count full e =
    idle_not_open (is_odd head.stream) (is_headers head.kind) (nat_lt count MAX_STREAMS) full e
full_judged Skipped head count full e = cc
full_judged (Begun now) head count full e = begun_not_open now head e

-- and no frame opens a stream
pub full_verdict : (history : List Event) (head : FrameHead) → IsFull history
    → verdict history head ≢ Open
full_verdict history head full =
    full_judged (state head.stream history) head (length (begun history)) full

-- ---- the frames of a stream that is open

pub opened_data : (head : FrameHead) → head.kind ≡ Data
    → (on_begun Opened head ≡ Accept)
    × (half_after Opened (Received head) ≡ (if has end_stream head.flags then Ended else Opened))
opened_data head kind = (
  ap (λ (k : FrameKind). on_opened k (has end_stream head.flags)) kind,
  ap (λ (k : FrameKind).
      moved Opened (is_reset_kind k) (is_last_of_kind k (has end_stream head.flags))) kind,
)

pub opened_reset : (head : FrameHead) → head.kind ≡ RstStream
    → (on_begun Opened head ≡ Accept) × (half_after Opened (Received head) ≡ Reset)
opened_reset head kind = (
  ap (λ (k : FrameKind). on_opened k (has end_stream head.flags)) kind,
  ap (λ (k : FrameKind).
      moved Opened (is_reset_kind k) (is_last_of_kind k (has end_stream head.flags))) kind,
)

pub opened_window : (head : FrameHead) → head.kind ≡ WindowUpdate
    → (on_begun Opened head ≡ Accept) × (half_after Opened (Received head) ≡ Opened)
opened_window head kind = (
  ap (λ (k : FrameKind). on_opened k (has end_stream head.flags)) kind,
  ap (λ (k : FrameKind).
      moved Opened (is_reset_kind k) (is_last_of_kind k (has end_stream head.flags))) kind,
)
