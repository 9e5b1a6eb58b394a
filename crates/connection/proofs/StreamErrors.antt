-- No error of a stream that is told has the code INTERNAL_ERROR (RFC 9113, section 7).
use Rattle.std.proofs.Common.{
  ◌≡◌,
  ℕ,
  inl,
  inr,
  Bool,
  true,
  false,
  List,
  [],
  ◌∷◌,
  ◌++◌,
  refl,
  sym,
  ap,
  ◌∙◌,
  arith,
}
use Rattle.std.specs.Prelude.{Option, ◌==◌, if◌then◌else◌, length, nat_lt}
use Rattle.std.specs.List.{sum_by}
use Rattle.std.proofs.lemmas.List.Sums.{sum_by-cons, sum_by-append}
use mathlib.Core.List.{IsPrefix}
use Rattle.h2frame.specs.declared.error_code.ErrorCode.{ErrorCode}
use Rattle.h2frame.specs.declared.error_code.ErrorCode.TheVariants.{InternalError}
use Rattle.h2frame.specs.declared.frame.Frame.{Frame}
use Rattle.h2frame.specs.declared.frame.FrameHead.{FrameHead}
use Rattle.h2frame.specs.declared.kind.FrameKind.{FrameKind}
use Rattle.h2frame.specs.declared.kind.FrameKind.TheVariants.{
  Data,
  Headers,
  Priority,
  RstStream,
  Settings,
  PushPromise,
  Ping,
  GoAway,
  WindowUpdate,
  Continuation,
  Unknown,
}
use Rattle.h2frame.specs.Flags.{has, ack, end_stream}
use Rattle.lists.specs.declared.field.Field.{Field}
use Rattle.hpack_codec.specs.Table.{Table}
use Rattle.callhead.specs.MalformedHeads.{are_malformed_trailers}
use Rattle.callhead.specs.declared.fault.HeadFault.{HeadFault}
use Rattle.callhead.specs.declared.fault.HeadFault.TheVariants.{
  BadTimeout,
  Malformed,
  NotGrpc,
  NotPost,
  OutOfMemory,
}
use Rattle.streamstates.specs.declared.halves.FrameAction.{FrameAction}
use Rattle.streamstates.specs.declared.halves.FrameAction.TheVariants.{
  Open,
  Accept,
  Discard,
  StreamError,
  ConnectionError,
}
use Rattle.limits.specs.declared.TheConstants.{MAX_STREAMS}
use Rattle.streamstates.specs.declared.halves.HalfState.{HalfState}
use Rattle.streamstates.specs.declared.halves.HalfState.TheVariants.{Opened, Ended, Reset}
use Rattle.streamstates.specs.Halves.{
  Begun,
  Event,
  Idle,
  Skipped,
  State,
  begun,
  is_headers,
  is_odd,
  judged,
  on_begun,
  on_ended,
  on_idle,
  on_opened,
  state,
  verdict,
}
use Rattle.session.specs.declared.event.InEvent.{InEvent}
use Rattle.session.specs.declared.event.InEvent.TheVariants as events
use Rattle.session.specs.Streams.{
  counted,
  end_of,
  refusal,
  data_events,
  reset_events,
  window_events,
  credit_head,
  credit_verdict,
  without_increment,
}
use Rattle.session.specs.Frames.{SettingsGive, ping_events, WindowGives, KindGives}
use Rattle.session.specs.Blocks.{bad_head_events, trailer_events, HeadGives, FieldsGive, BlockGives}
use Rattle.session.specs.Events.{
  Departed,
  Events,
  Greeted,
  Read,
  Situation,
  Unsettled,
  start,
  Group,
  Single,
  Credit,
  Block,
  GroupGives,
  Runs,
}
use Rattle.session.proofs.StreamFrames.{IsLast, close_last}
use Rattle.readerloop.specs.Steps.{Step, WasTold, events_of}

abbrev internal_code : ErrorCode → ℕ
internal_code InternalError = 1
internal_code _ = 0

abbrev internal_by : InEvent → ℕ
internal_by (events.StreamError id error) = internal_code error
internal_by _ = 0

abbrev internals : List InEvent → ℕ
internals given = sum_by internal_by given

-- the error of a stream isn't that one
abbrev IsSound : FrameAction → Type 0
IsSound (StreamError error) = internal_code error ≡ 0
IsSound _ = Unit {0}

idle_sound : (odd headers few : Bool) → IsSound (on_idle odd headers few)
idle_sound false headers few = tt
idle_sound true headers false = tt
idle_sound true true true = tt
idle_sound true false true = tt

opened_sound : (kind : FrameKind) (ended : Bool) → IsSound (on_opened kind ended)
opened_sound Headers false = refl
opened_sound Headers true = tt
opened_sound Data ended = tt
opened_sound Priority ended = tt
opened_sound RstStream ended = tt
opened_sound Settings ended = tt
opened_sound PushPromise ended = tt
opened_sound Ping ended = tt
opened_sound GoAway ended = tt
opened_sound WindowUpdate ended = tt
opened_sound Continuation ended = tt
opened_sound (Unknown code) ended = tt

ended_sound : (kind : FrameKind) → IsSound (on_ended kind)
ended_sound Headers = refl
ended_sound Data = refl
ended_sound Priority = tt
ended_sound RstStream = tt
ended_sound Settings = tt
ended_sound PushPromise = tt
ended_sound Ping = tt
ended_sound GoAway = tt
ended_sound WindowUpdate = tt
ended_sound Continuation = tt
ended_sound (Unknown code) = tt

begun_sound : (half : HalfState) (head : FrameHead) → IsSound (on_begun half head)
begun_sound Opened head = opened_sound head.kind (has end_stream head.flags)
begun_sound Ended head = ended_sound head.kind
begun_sound Reset head = tt

judged_sound : (found : State) (head : FrameHead) (count : ℕ) → IsSound (judged found head count)
judged_sound Idle head count =
    idle_sound (is_odd head.stream) (is_headers head.kind) (nat_lt count MAX_STREAMS)
judged_sound Skipped head count = tt
judged_sound (Begun half) head count = begun_sound half head

verdict_sound : (history : List Event) (head : FrameHead) → IsSound (verdict history head)
verdict_sound history head = judged_sound (state head.stream history) head (length (begun history))

credit_sound : (judged : FrameAction) → IsSound judged → IsSound (without_increment judged)
credit_sound Accept is = refl
credit_sound Open is = tt
credit_sound Discard is = tt
credit_sound (StreamError error) is = is
credit_sound (ConnectionError error) is = tt

-- ---- events that tell none

abbrev TellsNone : List InEvent → Type 0
TellsNone given = internals given ≡ 0

none_join : (xs ys : List InEvent) → TellsNone xs → TellsNone ys → TellsNone (xs ++ ys)
none_join xs ys p q = omega (arith, sum_by-append internal_by xs ys, p, q)

none_same : (given due : List InEvent) → given ≡ due → TellsNone due → TellsNone given
none_same given due e none = ap internals e ∙ none

end_none : (head : FrameHead) → TellsNone (end_of head)
end_none head =
    elim (has end_stream head.flags)
    as (λ (b : Bool). TellsNone (if b then events.End head.stream ∷ [] else []))
    [ true ↦ refl | false ↦ refl ]

-- one event before the end of a stream
before_end : (event : InEvent) (head : FrameHead) → internal_by event ≡ 0
    → TellsNone (event ∷ end_of head)
before_end event head none =
    omega (arith, sum_by-cons internal_by event (end_of head), none, end_none head)

refusal_none : (judged : FrameAction) (head : FrameHead) → IsSound judged
    → TellsNone (refusal judged head)
refusal_none (StreamError error) head sound =
    omega (arith, sum_by-cons internal_by (events.StreamError head.stream error) [], sound)
refusal_none (ConnectionError error) head sound = refl
refusal_none Open head sound = refl
refusal_none Accept head sound = refl
refusal_none Discard head sound = refl

reset_none : (judged : FrameAction) (frame : Frame) → IsSound judged
    → TellsNone (reset_events judged frame)
reset_none Accept frame sound = refl
reset_none Open frame sound = refl
reset_none Discard frame sound = refl
reset_none (StreamError error) frame sound = refusal_none (StreamError error) frame.head sound
reset_none (ConnectionError error) frame sound = refl

credit_none : (judged : FrameAction) (frame : Frame) → IsSound judged
    → TellsNone (window_events judged frame)
credit_none Accept frame sound = refl
credit_none Open frame sound = refl
credit_none Discard frame sound = refl
credit_none (StreamError error) frame sound = refusal_none (StreamError error) frame.head sound
credit_none (ConnectionError error) frame sound = refl

settings_none : (acked : Bool) (content : List ℕ) (given : List InEvent)
    → SettingsGive acked content given → TellsNone given
settings_none true content given e = none_same given [] e refl
settings_none false content given (inl (settings, tells, e)) = none_same given _ e refl
settings_none false content given (inr (error, refused, e)) = none_same given _ e refl

ping_none : (acked : Bool) (content : List ℕ) → TellsNone (ping_events acked content)
ping_none true content = refl
ping_none false content = refl

window_none : (connection : Bool) (history next : List Event) (frame : Frame) (given : List InEvent)
    → WindowGives connection history frame given next → TellsNone given
window_none true history next frame given (e, same) = none_same given _ e refl
window_none false history next frame given (e, same) =
    none_same given _ e
    (credit_none (verdict history frame.head) frame (verdict_sound history frame.head))

-- ---- DATA

counted_none : (n : ℕ) (event : InEvent) → internal_by event ≡ 0 → TellsNone (counted n event)
counted_none n event none = by (n == 0)
  where
    by : (b : Bool) → TellsNone (if b then [] else event ∷ [])
    by true = refl
    by false = omega (arith, sum_by-cons internal_by event [], none)

data_none : (judged : FrameAction) (frame : Frame) → IsSound judged
    → TellsNone (data_events judged frame)
data_none Accept frame sound =
    none_join (counted frame.head.length
    (events.Data frame.head.stream frame.content frame.head.length)) (end_of frame.head)
    (counted_none frame.head.length (events.Data frame.head.stream frame.content frame.head.length)
    refl) (end_none frame.head)
data_none (ConnectionError error) frame sound = refl
data_none Open frame sound =
    none_join (counted frame.head.length (events.Loose frame.head.length)) []
    (counted_none frame.head.length (events.Loose frame.head.length) refl) refl
data_none Discard frame sound =
    none_join (counted frame.head.length (events.Loose frame.head.length)) []
    (counted_none frame.head.length (events.Loose frame.head.length) refl) refl
data_none (StreamError error) frame sound =
    none_join (counted frame.head.length (events.Loose frame.head.length))
    (events.StreamError frame.head.stream error ∷ [])
    (counted_none frame.head.length (events.Loose frame.head.length) refl)
    (refusal_none (StreamError error) frame.head sound)

kind_none : (kind : FrameKind) (history next : List Event) (frame : Frame) (given : List InEvent)
    → KindGives kind history frame given next → TellsNone given
kind_none Data history next frame given (e, same) =
    none_same given _ e
    (data_none (verdict history frame.head) frame (verdict_sound history frame.head))
kind_none RstStream history next frame given (e, same) =
    none_same given _ e
    (reset_none (verdict history frame.head) frame (verdict_sound history frame.head))
kind_none WindowUpdate history next frame given gives =
    window_none (frame.head.stream == 0) history next frame given gives
kind_none Settings history next frame given (gives, same) =
    settings_none (has ack frame.head.flags) frame.content given gives
kind_none Ping history next frame given (e, same) =
    none_same given _ e (ping_none (has ack frame.head.flags) frame.content)
kind_none GoAway history next frame given (e, same) = none_same given _ e refl
kind_none PushPromise history next frame given (e, same) = none_same given _ e refl
kind_none Continuation history next frame given (e, same) = none_same given _ e refl
kind_none Priority history next frame given (e, same) = none_same given _ e refl
kind_none (Unknown code) history next frame given (e, same) = none_same given _ e refl
kind_none Headers history next frame given gives = absurd gives

-- ---- header blocks

trailers_none : (malformed : Bool) (head : FrameHead) → TellsNone (trailer_events malformed head)
trailers_none true head = refl
trailers_none false head = end_none head

bad_head_none : (fault : HeadFault) (head : FrameHead) → TellsNone (bad_head_events fault head)
bad_head_none Malformed head = refl
bad_head_none NotPost head = before_end (events.BadHead head.stream NotPost) head refl
bad_head_none NotGrpc head = before_end (events.BadHead head.stream NotGrpc) head refl
bad_head_none BadTimeout head = before_end (events.BadHead head.stream BadTimeout) head refl
bad_head_none OutOfMemory head = before_end (events.BadHead head.stream OutOfMemory) head refl

head_none : (head : FrameHead) (fields : List Field) (history next : List Event)
    (given : List InEvent)
    → HeadGives head fields history given next → TellsNone given
head_none head fields history next given (inl (call, is, e, same)) =
    none_same given _ e (before_end (events.Open head.stream call) head refl)
head_none head fields history next given (inr (fault, first, e, same)) =
    none_same given _ e (bad_head_none fault head)

fields_none : (judged : FrameAction) (head : FrameHead) (fields : List Field)
    (history next : List Event) (given : List InEvent)
    → IsSound judged → FieldsGive judged head fields history given next → TellsNone given
fields_none Open head fields history next given sound gives =
    head_none head fields history next given gives
fields_none Accept head fields history next given sound (e, same) =
    none_same given _ e (trailers_none (are_malformed_trailers fields) head)
fields_none Discard head fields history next given sound (e, same) = none_same given _ e refl
fields_none (StreamError error) head fields history next given sound (e, same) =
    none_same given _ e (refusal_none (StreamError error) head sound)
fields_none (ConnectionError error) head fields history next given sound (e, same) =
    none_same given _ e refl

block_none : (kept kept_next : Option Table) (head : FrameHead) (judged : FrameAction)
    (block : List ℕ) (history next : List Event) (given : List InEvent)
    → IsSound judged → BlockGives kept head judged block history given next kept_next
    → TellsNone given
block_none kept kept_next head judged block history next given sound (inl (fields, reads, gives)) =
    fields_none judged head fields history next given sound gives
block_none kept kept_next head judged block history next given sound
    (inr (fault, first, memory, e, same)) = none_same given _ e refl

-- ---- groups, and runs of them

group_none : (old new : Situation) (group : Group) (given : List InEvent)
    → GroupGives old group given new → TellsNone given
group_none old new (Single frame) given (gives, same) =
    kind_none frame.head.kind old.history new.history frame given gives
group_none old new (Credit id) given (e, next, same) =
    none_same given _ e (refusal_none (credit_verdict old.history id) (credit_head id) (credit_sound
    (verdict old.history (credit_head id)) (verdict_sound old.history (credit_head id))))
group_none old new (Block frames block) given (is_begun, whole, gives) =
    block_none old.kept new.kept block.head (verdict old.history block.head) block.block _
    new.history given (verdict_sound old.history block.head) gives

runs_none : (old new : Situation) (groups : List Group) (given : List InEvent)
    → Runs old groups given new → TellsNone given
runs_none old new [] given (e, same) = none_same given [] e refl
runs_none old new (group ∷ groups) given (first, others, next, gives, calm, runs, e) =
    none_same given (first ++ others) e (none_join first others
    (group_none old next group first gives) (runs_none next new groups others runs))

last_none : (given : List InEvent) → IsLast given → TellsNone given
last_none given (inl e) = none_same given [] e refl
last_none given (inr (error, e)) = none_same given _ e refl

events_none : (bytes : List ℕ) (given : List InEvent) → Events bytes given → TellsNone given
events_none bytes given (Greeted due is none) = none_same given [] none refl
events_none bytes given (Departed departs is) = none_same given _ is refl
events_none bytes given (Unsettled text entries rest is joined unsettled ends) =
    none_same given _ ends refl
events_none bytes given (Read text entries rest close is joined so) =
    none_same given (so.before ++ so.last) so.all (none_join so.before so.last
    (runs_none start so.now so.passes.groups so.before so.passes.runs)
    (last_none so.last (close_last close so.now so.behind rest so.last so.closes)))

some-internal : (before after : List InEvent) (id : ℕ)
    → internals (before ++ events.StreamError id InternalError ∷ after) ≡ 0 → ⊥
some-internal before after id none =
    omega (
      arith,
      none,
      sum_by-append internal_by before (events.StreamError id InternalError ∷ after),
      sum_by-cons internal_by (events.StreamError id InternalError) after,
    )

front_none : (given all : List InEvent) → IsPrefix given all → TellsNone all → TellsNone given
front_none given all front none =
    omega (arith, sum_by-append internal_by given front.0, ap internals front.1, none)

-- none of those that were heard has it
pub never-internal : (came : List ℕ) (given : List InEvent) (told : List Step) (id : ℕ)
    → Events came given → IsPrefix (events_of told) given
    → WasTold (events.StreamError id InternalError) told → ⊥
never-internal came given told id are front was =
    some-internal was.0 was.1 id (sym (ap internals was.2)
    ∙ front_none (events_of told) given front (events_none came given are))

-- nor one of these steps, which tell of the same
pub never-internal-of : (steps told : List Step) (id : ℕ) → events_of steps ≡ events_of told
    → (bytes : List ℕ) × (given : List InEvent) × Events bytes given
    × IsPrefix (events_of told) given
    → WasTold (events.StreamError id InternalError) steps → ⊥
never-internal-of steps told id same (bytes, given, are, front) was =
    never-internal bytes given told id are front (was.0, was.1, sym same ∙ was.2)
