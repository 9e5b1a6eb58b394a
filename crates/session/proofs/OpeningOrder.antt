-- The numbers of the streams that events tell to begin rise.
use Rattle.std.proofs.Common.{
  ◌≡◌,
  ◌≢◌,
  ◌<◌,
  ◌⊎◌,
  ℕ,
  inl,
  inr,
  Bool,
  true,
  false,
  ◌&&◌,
  not,
  nat_eq,
  List,
  [],
  ◌∷◌,
  ◌++◌,
  length,
  refl,
  sym,
  ap,
  subst,
  ◌∙◌,
}
use Rattle.std.specs.Prelude.{Option, Some, None, ◌==◌, nat_lt, if◌then◌else◌, flat_map}
use Rattle.std.specs.List.{list_all}
use Rattle.std.proofs.lemmas.Bool.{and_parts, ltb-true}
use Rattle.std.proofs.lemmas.List.{append-nil}
use Rattle.limits.proofs.Entries.{same_number}
use Rattle.std.proofs.lemmas.Grind.{flat_map-append}
use Rattle.h2frame.specs.declared.error_code.ErrorCode.TheVariants.{ProtocolError}
use Rattle.h2frame.specs.declared.frame.Frame.{Frame}
use Rattle.h2frame.specs.declared.frame.FrameHead.{FrameHead}
use Rattle.h2frame.specs.declared.kind.FrameKind.{FrameKind}
use Rattle.h2frame.specs.declared.kind.FrameKind.TheVariants.{
  Data,
  Headers,
  Priority,
  RstStream,
  Settings,
  PushPromise,
  Ping,
  GoAway,
  WindowUpdate,
  Continuation,
  Unknown,
}
use Rattle.h2frame.specs.Flags.{has, ack, end_stream}
use Rattle.lists.specs.declared.field.Field.{Field}
use Rattle.hpack_codec.specs.Table.{Table}
use Rattle.callhead.specs.MalformedHeads.{are_malformed_trailers}
use Rattle.callhead.specs.declared.fault.HeadFault.{HeadFault}
use Rattle.callhead.specs.declared.fault.HeadFault.TheVariants.{Malformed}
use Rattle.limits.specs.declared.TheConstants.{MAX_STREAMS}
use Rattle.streamstates.specs.declared.halves.HalfState.{HalfState}
use Rattle.streamstates.specs.declared.halves.FrameAction.{FrameAction}
use Rattle.streamstates.specs.declared.halves.FrameAction.TheVariants.{
  Open,
  Accept,
  Discard,
  StreamError,
  ConnectionError,
}
use Rattle.streamstates.specs.Halves.{
  Event,
  Received,
  Cut,
  stream_of,
  is_headers,
  is_odd,
  is_above,
  begins,
  begun,
  verdict,
}
use Rattle.session.specs.declared.event.InEvent.{InEvent}
use Rattle.session.specs.declared.event.InEvent.TheVariants as events
use Rattle.session.specs.Streams.{
  after_frame,
  counted,
  end_of,
  refusal,
  data_events,
  reset_events,
  window_events,
  credit_head,
  credit_verdict,
}
use Rattle.session.specs.Frames.{SettingsGive, ping_events, WindowGives, KindGives}
use Rattle.session.specs.Blocks.{
  bad_head_events,
  after_bad_head,
  trailer_events,
  HeadGives,
  FieldsGive,
  BlockGives,
}
use Rattle.session.specs.Events.{
  Situation,
  start,
  Group,
  Single,
  Credit,
  Block,
  GroupGives,
  IsCalm,
  Runs,
  Events,
}
use Rattle.session.specs.Openings.{opening_of, openings, RiseFrom, AreRising}
use Rattle.session.proofs.HalfSteps.{
  half_at,
  first_verdict,
  first_state,
  begun_not_open,
  verdict_begun,
}
use Rattle.session.proofs.StreamGroups.{single_next, fields_next, open_or_not}
use Rattle.session.proofs.StreamPieces.{IsNextOf}
use Rattle.session.proofs.StreamFrames.{IsLast, frames_of, unread_last, close_last}

-- ---- frames that tell no stream to begin

abbrev pub OpensNone : List InEvent → Type 0
OpensNone given = openings given ≡ []

openings_append : (xs ys : List InEvent) → openings (xs ++ ys) ≡ openings xs ++ openings ys
openings_append xs ys = flat_map-append opening_of xs ys

none_join : (xs ys : List InEvent) → OpensNone xs → OpensNone ys → OpensNone (xs ++ ys)
none_join xs ys p q = openings_append xs ys ∙ ap (λ (b : List ℕ). b ++ openings ys) p ∙ q

none_same : (given due : List InEvent) → given ≡ due → OpensNone due → OpensNone given
none_same given due e none = ap openings e ∙ none

end_none : (head : FrameHead) → OpensNone (end_of head)
end_none head =
    elim (has end_stream head.flags)
    as (λ (b : Bool). OpensNone (if b then events.End head.stream ∷ [] else []))
    [ true ↦ refl | false ↦ refl ]

refusal_none : (judged : FrameAction) (head : FrameHead) → OpensNone (refusal judged head)
refusal_none (StreamError error) head = refl
refusal_none (ConnectionError error) head = refl
refusal_none Open head = refl
refusal_none Accept head = refl
refusal_none Discard head = refl

counted_none : (n : ℕ) (event : InEvent) → opening_of event ≡ [] → OpensNone (counted n event)
counted_none n event none =
    elim (n == 0) as (λ (b : Bool). OpensNone (if b then [] else event ∷ []))
    [ true ↦ refl | false ↦ ap (λ (b : List ℕ). b ++ []) none ]

data_none : (judged : FrameAction) (frame : Frame) → OpensNone (data_events judged frame)
data_none Accept frame =
    none_join (counted frame.head.length
    (events.Data frame.head.stream frame.content frame.head.length)) (end_of frame.head)
    (counted_none frame.head.length (events.Data frame.head.stream frame.content frame.head.length)
    refl) (end_none frame.head)
data_none (ConnectionError error) frame = refl
data_none Open frame =
    none_join (counted frame.head.length (events.Loose frame.head.length)) []
    (counted_none frame.head.length (events.Loose frame.head.length) refl) refl
data_none Discard frame =
    none_join (counted frame.head.length (events.Loose frame.head.length)) []
    (counted_none frame.head.length (events.Loose frame.head.length) refl) refl
data_none (StreamError error) frame =
    none_join (counted frame.head.length (events.Loose frame.head.length))
    (events.StreamError frame.head.stream error ∷ [])
    (counted_none frame.head.length (events.Loose frame.head.length) refl) refl

reset_none : (judged : FrameAction) (frame : Frame) → OpensNone (reset_events judged frame)
reset_none Accept frame = refl
reset_none Open frame = refl
reset_none Discard frame = refl
reset_none (StreamError error) frame = refl
reset_none (ConnectionError error) frame = refl

credit_none : (judged : FrameAction) (frame : Frame) → OpensNone (window_events judged frame)
credit_none Accept frame = refl
credit_none Open frame = refl
credit_none Discard frame = refl
credit_none (StreamError error) frame = refl
credit_none (ConnectionError error) frame = refl

settings_none : (acked : Bool) (content : List ℕ) (given : List InEvent)
    → SettingsGive acked content given → OpensNone given
settings_none true content given e = none_same given [] e refl
settings_none false content given (inl (settings, tells, e)) = none_same given _ e refl
settings_none false content given (inr (error, refused, e)) = none_same given _ e refl

ping_none : (acked : Bool) (content : List ℕ) → OpensNone (ping_events acked content)
ping_none true content = refl
ping_none false content = refl

window_none : (connection : Bool) (history next : List Event) (frame : Frame) (given : List InEvent)
    → WindowGives connection history frame given next → OpensNone given
window_none true history next frame given (e, same) = none_same given _ e refl
window_none false history next frame given (e, same) =
    none_same given _ e (credit_none (verdict history frame.head) frame)

kind_none : (kind : FrameKind) (history next : List Event) (frame : Frame) (given : List InEvent)
    → KindGives kind history frame given next → OpensNone given
kind_none Data history next frame given (e, same) =
    none_same given _ e (data_none (verdict history frame.head) frame)
kind_none RstStream history next frame given (e, same) =
    none_same given _ e (reset_none (verdict history frame.head) frame)
kind_none WindowUpdate history next frame given gives =
    window_none (frame.head.stream == 0) history next frame given gives
kind_none Settings history next frame given (gives, same) =
    settings_none (has ack frame.head.flags) frame.content given gives
kind_none Ping history next frame given (e, same) =
    none_same given _ e (ping_none (has ack frame.head.flags) frame.content)
kind_none GoAway history next frame given (e, same) = none_same given _ e refl
kind_none PushPromise history next frame given (e, same) = none_same given _ e refl
kind_none Continuation history next frame given (e, same) = none_same given _ e refl
kind_none Priority history next frame given (e, same) = none_same given _ e refl
kind_none (Unknown code) history next frame given (e, same) = none_same given _ e refl
kind_none Headers history next frame given gives = absurd gives

trailers_none : (malformed : Bool) (head : FrameHead) → OpensNone (trailer_events malformed head)
trailers_none true head = refl
trailers_none false head = end_none head

fields_none : (judged : FrameAction) (head : FrameHead) (fields : List Field)
    (history next : List Event) (given : List InEvent)
    → judged ≢ Open → FieldsGive judged head fields history given next → OpensNone given
fields_none Open head fields history next given not gives = absurd (not refl)
fields_none Accept head fields history next given not (e, same) =
    none_same given _ e (trailers_none (are_malformed_trailers fields) head)
fields_none Discard head fields history next given not (e, same) = none_same given _ e refl
fields_none (StreamError error) head fields history next given not (e, same) =
    none_same given _ e refl
fields_none (ConnectionError error) head fields history next given not (e, same) =
    none_same given _ e refl

-- ---- the streams that were begun

-- what is above all streams of the one history is above those of the other
abbrev pub IsLater : List Event → List Event → Type 0
IsLater history next =
    (id : ℕ) → is_above (begun next) id ≡ true → is_above (begun history) id ≡ true

later_event : (event : Event) (history : List Event) → IsLater history (event ∷ history)
later_event event history id above = by (begins event (begun history)) above
  where
    by : (b : Bool)
        → is_above (if b then stream_of event ∷ begun history else begun history) id ≡ true
        → is_above (begun history) id ≡ true
    by true above = (and_parts (nat_lt (stream_of event) id) (is_above (begun history) id) above).1
    by false above = above

later_join : (history next last : List Event) → IsLater history next → IsLater next last
    → IsLater history last
later_join history next last p q id above = p id (q id above)

later_same : (history next last : List Event) → last ≡ next → IsLater history next
    → IsLater history last
later_same history next last e later = subst (IsLater history) (sym e) later

later_frame : (judged : FrameAction) (head : FrameHead) (history : List Event)
    → IsLater history (after_frame judged head history)
later_frame (StreamError error) head history =
    later_join history (Received head ∷ history) (Cut head.stream ∷ (Received head ∷ history))
    (later_event (Received head) history) (later_event (Cut head.stream) (Received head ∷ history))
later_frame Open head history = later_event (Received head) history
later_frame Accept head history = later_event (Received head) history
later_frame Discard head history = later_event (Received head) history
later_frame (ConnectionError error) head history = later_event (Received head) history

later_next : (id : ℕ) (history next : List Event) → IsNextOf id history next → IsLater history next
later_next id history next (inl same) = later_same history history next same (λ other above. above)
later_next id history next (inr same) =
    later_same history (Cut id ∷ history) next same (later_event (Cut id) history)

-- HEADERS that open a stream begin it
opens_first : (headers odd above few : Bool) → first_verdict headers odd above few ≡ Open
    → (headers && (odd && (above && few))) ≡ true
opens_first true true true true is = refl
opens_first true true true false is = absurd cc
opens_first true true false few is = absurd cc
opens_first true false above true is = absurd cc
opens_first true false above false is = absurd cc
opens_first false true true true is = absurd cc
opens_first false true true false is = absurd cc
opens_first false true false few is = absurd cc
opens_first false false above true is = absurd cc
opens_first false false above false is = absurd cc

open_begins : (history : List Event) (head : FrameHead) → verdict history head ≡ Open
    → begins (Received head) (begun history) ≡ true
open_begins history head opens = by (half_at history head.stream) refl
  where
    by : (o : Option HalfState) → half_at history head.stream ≡ o
        → begins (Received head) (begun history) ≡ true
    by (Some now) at =
        absurd (begun_not_open now head
        (sym (verdict_begun head.stream history head now (same_number head.stream) at) ∙ opens))
    by None none =
        opens_first (is_headers head.kind) (is_odd head.stream)
        (is_above (begun history) head.stream) (nat_lt (length (begun history)) MAX_STREAMS)
        (sym (first_state history head none) ∙ opens)

begins_above : (head : FrameHead) (history : List Event)
    → begins (Received head) (begun history) ≡ true → is_above (begun history) head.stream ≡ true
begins_above head history b =
    let odd_on =
    and_parts (is_headers head.kind) (is_odd head.stream
    && (is_above (begun history) head.stream && nat_lt (length (begun history)) MAX_STREAMS)) b in
    let above_on =
    and_parts (is_odd head.stream) (is_above (begun history) head.stream
    && nat_lt (length (begun history)) MAX_STREAMS) odd_on.1 in
    (and_parts (is_above (begun history) head.stream)
    (nat_lt (length (begun history)) MAX_STREAMS) above_on.1).0

above_begun : (head : FrameHead) (history : List Event) (other : ℕ)
    → begins (Received head) (begun history) ≡ true
    → is_above (begun (Received head ∷ history)) other ≡ true → head.stream < other
above_begun head history other b above =
    ltb-true head.stream other
    (and_parts (nat_lt head.stream other) (is_above (begun history) other) (ap
    (λ (x : Bool). is_above (if x then head.stream ∷ begun history else begun history) other)
    (sym b)
    ∙ above)).0

-- ---- the openings of a group

-- none; or one, which is above all streams before it, and which those behind it have to be above
abbrev pub GroupOpens : List Event → List Event → List InEvent → Type 0
GroupOpens history next given =
    (OpensNone given × IsLater history next)
    ⊎ ((id : ℕ) × (openings given ≡ id ∷ []) × (is_above (begun history) id ≡ true)
    × ((other : ℕ) → is_above (begun next) other ≡ true → id < other))

bad_head_opens : (fault : HeadFault) (head : FrameHead)
    → openings (bad_head_events fault head) ≡ head.stream ∷ []
bad_head_opens Malformed head = refl
bad_head_opens _ head = ap (λ (b : List ℕ). head.stream ∷ b) (end_none head)

head_opens : (head : FrameHead) (fields : List Field) (history next : List Event)
    (given : List InEvent)
    → HeadGives head fields history given next → openings given ≡ head.stream ∷ []
head_opens head fields history next given (inl (call, is, e, same)) =
    ap openings e ∙ ap (λ (b : List ℕ). head.stream ∷ b) (end_none head)
head_opens head fields history next given (inr (fault, first, e, same)) =
    ap openings e ∙ bad_head_opens fault head

fields_open : (head : FrameHead) (fields : List Field) (history next : List Event)
    (given : List InEvent)
    → verdict history head ≡ Open → FieldsGive Open head fields (Received head ∷ history) given next
    → GroupOpens history next given
fields_open head fields history next given opens gives =
    let b = open_begins history head opens in
    let later : IsLater (Received head ∷ history) next =
    later_next head.stream (Received head ∷ history) next
    (fields_next Open head fields (Received head ∷ history) next given gives) in
    inr (
      head.stream,
      head_opens head fields (Received head ∷ history) next given gives,
      begins_above head history b,
      λ (other : ℕ) (above : is_above (begun next) other ≡ true).
          above_begun head history other b (later other above),
    )

block_opens_by : (kept kept_next : Option Table) (head : FrameHead) (block : List ℕ)
    (history next : List Event) (given : List InEvent)
    → BlockGives kept head (verdict history head) block
    (after_frame (verdict history head) head history) given next kept_next
    → GroupOpens history next given
block_opens_by kept kept_next head block history next given (inr (fault, first, memory, e, same)) =
    inl (
      none_same given _ e refl,
      later_same history (after_frame (verdict history head) head history) next same
          (later_frame (verdict history head) head history),
    )
block_opens_by kept kept_next head block history next given (inl (fields, reads, gives)) =
    elim (open_or_not (verdict history head)) [
      | inl opens ↦
          fields_open head fields history next given opens (subst (λ (v : FrameAction).
          FieldsGive v head fields (after_frame v head history) given next) opens gives)
      | inr not ↦
          let after : List Event = after_frame (verdict history head) head history in
          inl (
            fields_none (verdict history head) head fields after next given not gives,
            later_join history after next (later_frame (verdict history head) head history)
                (later_next head.stream after next
                (fields_next (verdict history head) head fields after next given gives)),
          )
    ]

group_opens : (old new : Situation) (group : Group) (given : List InEvent)
    → GroupGives old group given new → GroupOpens old.history new.history given
group_opens old new (Single frame) given (gives, same) =
    inl (
      kind_none frame.head.kind old.history new.history frame given gives,
      elim (single_next frame.head.kind old.history new.history frame given gives) [
        | inl e ↦ later_same old.history old.history new.history e (λ other above. above)
        | inr e ↦
            later_same old.history
            (after_frame (verdict old.history frame.head) frame.head old.history) new.history e
            (later_frame (verdict old.history frame.head) frame.head old.history)
      ],
    )
group_opens old new (Credit id) given (e, next, same) =
    inl (
      none_same given _ e (refusal_none (credit_verdict old.history id) (credit_head id)),
      later_same old.history
          (after_frame (credit_verdict old.history id) (credit_head id) old.history) new.history
          next (later_frame (credit_verdict old.history id) (credit_head id) old.history),
    )
group_opens old new (Block frames block) given (is_begun, whole, gives) =
    block_opens_by old.kept new.kept block.head block.block old.history new.history given gives

-- ---- of a run

-- what may still begin is above the last that did
abbrev IsBound : List Event → ℕ → Type 0
IsBound history last = (id : ℕ) → is_above (begun history) id ≡ true → last < id

runs_rise : (old new : Situation) (groups : List Group) (given : List InEvent) (last : ℕ)
    → Runs old groups given new → IsBound old.history last → RiseFrom last (openings given)
runs_rise old new [] given last (e, same) bound =
    subst (λ (es : List InEvent). RiseFrom last (openings es)) (sym e) tt
runs_rise old new (group ∷ groups) given last (first, others, next, gives, calm, runs, e) bound =
    let all : openings given ≡ openings first ++ openings others =
    ap openings e ∙ openings_append first others in
    elim (group_opens old next group first gives) [
      | inl (none, later) ↦
          subst (RiseFrom last) (sym (all ∙ ap (λ (b : List ℕ). b ++ openings others) none))
          (runs_rise next new groups others last runs (λ id above. bound id (later id above)))
      | inr (id, one, above, behind) ↦
          subst (RiseFrom last) (sym (all ∙ ap (λ (b : List ℕ). b ++ openings others) one))
          (bound id above, runs_rise next new groups others id runs behind)
    ]

runs_rising : (old new : Situation) (groups : List Group) (given : List InEvent)
    → Runs old groups given new → AreRising (openings given)
runs_rising old new [] given (e, same) =
    subst (λ (es : List InEvent). AreRising (openings es)) (sym e) tt
runs_rising old new (group ∷ groups) given (first, others, next, gives, calm, runs, e) =
    let all : openings given ≡ openings first ++ openings others =
    ap openings e ∙ openings_append first others in
    elim (group_opens old next group first gives) [
      | inl (none, later) ↦
          subst AreRising (sym (all ∙ ap (λ (b : List ℕ). b ++ openings others) none))
          (runs_rising next new groups others runs)
      | inr (id, one, above, behind) ↦
          subst AreRising (sym (all ∙ ap (λ (b : List ℕ). b ++ openings others) one))
          (runs_rise next new groups others id runs behind)
    ]

-- ---- of all events of a connection's bytes

last_none : (given : List InEvent) → IsLast given → OpensNone given
last_none given (inl e) = none_same given [] e refl
last_none given (inr (error, e)) = none_same given _ e refl

pub events_rise : (bytes : List ℕ) (given : List InEvent) → Events bytes given
    → AreRising (openings given)
events_rise bytes given read =
    let framed = frames_of bytes given read in
    elim framed.1 [
      | inl (unread, none) ↦
          subst AreRising (sym (last_none given (unread_last bytes given unread))) tt
      | inr so ↦
          subst AreRising
          (sym (ap openings so.all ∙ openings_append so.before so.last
          ∙ ap (λ (b : List ℕ). openings so.before ++ b)
          (last_none so.last (close_last so.close so.now so.behind so.rest so.last so.closes))
          ∙ append-nil (openings so.before)))
          (runs_rising start so.now so.passes.groups so.before so.passes.runs)
    ]
