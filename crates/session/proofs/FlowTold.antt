-- The bytes that events tell for flow control are at most those of the payloads of DATA.
use Rattle.std.proofs.Common.{
  ◌≡◌,
  ◌≢◌,
  ◌≤◌,
  ◌+◌,
  ℕ,
  inl,
  inr,
  Bool,
  true,
  false,
  List,
  [],
  ◌∷◌,
  ◌++◌,
  refl,
  sym,
  ap,
  subst,
  ◌∙◌,
  arith,
}
use Rattle.std.specs.Prelude.{Option, ◌==◌, if◌then◌else◌}
use Rattle.std.specs.List.{sum_by}
use Rattle.std.proofs.lemmas.Bool.{eqb-true}
use Rattle.std.proofs.lemmas.List.{append_cancel_right}
use Rattle.std.proofs.lemmas.List.Sums.{sum_by-cons, sum_by-append}
use Rattle.h2frame.specs.declared.frame.Frame.{Frame}
use Rattle.h2frame.specs.declared.frame.FrameHead.{FrameHead}
use Rattle.h2frame.specs.declared.kind.FrameKind.{FrameKind}
use Rattle.h2frame.specs.declared.kind.FrameKind.TheVariants.{
  Data,
  Headers,
  Priority,
  RstStream,
  Settings,
  PushPromise,
  Ping,
  GoAway,
  WindowUpdate,
  Continuation,
  Unknown,
}
use Rattle.h2frame.specs.Flags.{has, ack, end_stream}
use Rattle.h2frame.specs.FrameList.{Entry, Whole}
use Rattle.lists.specs.declared.field.Field.{Field}
use Rattle.hpack_codec.specs.Table.{Table}
use Rattle.callhead.specs.MalformedHeads.{are_malformed_trailers}
use Rattle.callhead.specs.declared.fault.HeadFault.{HeadFault}
use Rattle.callhead.specs.declared.fault.HeadFault.TheVariants.{
  BadTimeout,
  Malformed,
  NotGrpc,
  NotPost,
  OutOfMemory,
}
use Rattle.streamstates.specs.declared.halves.FrameAction.{FrameAction}
use Rattle.streamstates.specs.declared.halves.FrameAction.TheVariants.{
  Open,
  Accept,
  Discard,
  StreamError,
  ConnectionError,
}
use Rattle.streamstates.specs.Halves.{Event, verdict}
use Rattle.session.specs.declared.event.InEvent.{InEvent}
use Rattle.session.specs.declared.event.InEvent.TheVariants as events
use Rattle.session.specs.Streams.{
  counted,
  end_of,
  refusal,
  data_events,
  reset_events,
  window_events,
  credit_head,
  credit_verdict,
}
use Rattle.session.specs.Frames.{SettingsGive, ping_events, WindowGives, KindGives}
use Rattle.session.specs.Blocks.{bad_head_events, trailer_events, HeadGives, FieldsGive, BlockGives}
use Rattle.session.specs.Events.{
  Situation,
  start,
  Group,
  Single,
  Credit,
  Block,
  entries_of,
  GroupGives,
  Runs,
}
use Rattle.session.specs.Framings.{Framed}
use Rattle.session.specs.FlowBytes.{counted_by, counted_told, is_data, payload_of, payloads}
use Rattle.session.proofs.StreamRuns.{front_of, front_is}
use Rattle.session.proofs.StreamFrames.{IsLast, unread_last, close_last}

-- ---- events that count nothing

abbrev CountsNone : List InEvent → Type 0
CountsNone given = counted_told given ≡ 0

none_join : (xs ys : List InEvent) → CountsNone xs → CountsNone ys → CountsNone (xs ++ ys)
none_join xs ys p q = omega (arith, sum_by-append counted_by xs ys, p, q)

none_same : (given due : List InEvent) → given ≡ due → CountsNone due → CountsNone given
none_same given due e none = ap counted_told e ∙ none

end_none : (head : FrameHead) → CountsNone (end_of head)
end_none head =
    elim (has end_stream head.flags)
    as (λ (b : Bool). CountsNone (if b then events.End head.stream ∷ [] else []))
    [ true ↦ refl | false ↦ refl ]

-- one event before the end of a stream
before_end : (event : InEvent) (head : FrameHead) → counted_by event ≡ 0
    → CountsNone (event ∷ end_of head)
before_end event head none =
    omega (arith, sum_by-cons counted_by event (end_of head), none, end_none head)

refusal_none : (judged : FrameAction) (head : FrameHead) → CountsNone (refusal judged head)
refusal_none (StreamError error) head = refl
refusal_none (ConnectionError error) head = refl
refusal_none Open head = refl
refusal_none Accept head = refl
refusal_none Discard head = refl

reset_none : (judged : FrameAction) (frame : Frame) → CountsNone (reset_events judged frame)
reset_none Accept frame = refl
reset_none Open frame = refl
reset_none Discard frame = refl
reset_none (StreamError error) frame = refl
reset_none (ConnectionError error) frame = refl

credit_none : (judged : FrameAction) (frame : Frame) → CountsNone (window_events judged frame)
credit_none Accept frame = refl
credit_none Open frame = refl
credit_none Discard frame = refl
credit_none (StreamError error) frame = refl
credit_none (ConnectionError error) frame = refl

settings_none : (acked : Bool) (content : List ℕ) (given : List InEvent)
    → SettingsGive acked content given → CountsNone given
settings_none true content given e = none_same given [] e refl
settings_none false content given (inl (settings, tells, e)) = none_same given _ e refl
settings_none false content given (inr (error, refused, e)) = none_same given _ e refl

ping_none : (acked : Bool) (content : List ℕ) → CountsNone (ping_events acked content)
ping_none true content = refl
ping_none false content = refl

window_none : (connection : Bool) (history next : List Event) (frame : Frame) (given : List InEvent)
    → WindowGives connection history frame given next → CountsNone given
window_none true history next frame given (e, same) = none_same given _ e refl
window_none false history next frame given (e, same) =
    none_same given _ e (credit_none (verdict history frame.head) frame)

-- ---- DATA count once

counts_once : (n : ℕ) (event : InEvent) → counted_by event ≡ n → counted_told (counted n event) ≡ n
counts_once n event is = by (n == 0) refl
  where
    by : (b : Bool) → n == 0 ≡ b → counted_told (if b then [] else event ∷ []) ≡ n
    by true none = sym (eqb-true n 0 none)
    by false some = sum_by-cons counted_by event [] ∙ omega (arith, is)

counts_before : (n : ℕ) (event : InEvent) (behind : List InEvent) → counted_by event ≡ n
    → CountsNone behind → counted_told (counted n event ++ behind) ≤ n
counts_before n event behind is none =
    omega (arith, sum_by-append counted_by (counted n event) behind, counts_once n event is, none)

data_counts : (judged : FrameAction) (frame : Frame)
    → counted_told (data_events judged frame) ≤ frame.head.length
data_counts Accept frame =
    counts_before frame.head.length (events.Data frame.head.stream frame.content frame.head.length)
    (end_of frame.head) refl (end_none frame.head)
data_counts (ConnectionError error) frame = omega arith
data_counts Open frame =
    counts_before frame.head.length (events.Loose frame.head.length) [] refl refl
data_counts Discard frame =
    counts_before frame.head.length (events.Loose frame.head.length) [] refl refl
data_counts (StreamError error) frame =
    counts_before frame.head.length (events.Loose frame.head.length)
    (events.StreamError frame.head.stream error ∷ []) refl refl

abbrev IsWithin : List InEvent → ℕ → Type 0
IsWithin given most = counted_told given ≤ most

none_within : (given : List InEvent) (most : ℕ) → CountsNone given → IsWithin given most
none_within given most none = omega (arith, none)

kind_within : (kind : FrameKind) (history next : List Event) (frame : Frame) (given : List InEvent)
    → KindGives kind history frame given next
    → IsWithin given (if is_data kind then frame.head.length else 0)
kind_within Data history next frame given (e, same) =
    subst (λ (es : List InEvent). IsWithin es frame.head.length) (sym e)
    (data_counts (verdict history frame.head) frame)
kind_within RstStream history next frame given (e, same) =
    none_within given 0 (none_same given _ e (reset_none (verdict history frame.head) frame))
kind_within WindowUpdate history next frame given gives =
    none_within given 0 (window_none (frame.head.stream == 0) history next frame given gives)
kind_within Settings history next frame given (gives, same) =
    none_within given 0 (settings_none (has ack frame.head.flags) frame.content given gives)
kind_within Ping history next frame given (e, same) =
    none_within given 0 (none_same given _ e (ping_none (has ack frame.head.flags) frame.content))
kind_within GoAway history next frame given (e, same) =
    none_within given 0 (none_same given _ e refl)
kind_within PushPromise history next frame given (e, same) =
    none_within given 0 (none_same given _ e refl)
kind_within Continuation history next frame given (e, same) =
    none_within given 0 (none_same given _ e refl)
kind_within Priority history next frame given (e, same) =
    none_within given 0 (none_same given _ e refl)
kind_within (Unknown code) history next frame given (e, same) =
    none_within given 0 (none_same given _ e refl)
kind_within Headers history next frame given gives = absurd gives

-- ---- header blocks count nothing

trailers_none : (malformed : Bool) (head : FrameHead) → CountsNone (trailer_events malformed head)
trailers_none true head = refl
trailers_none false head = end_none head

bad_head_none : (fault : HeadFault) (head : FrameHead) → CountsNone (bad_head_events fault head)
bad_head_none Malformed head = refl
bad_head_none NotPost head = before_end (events.BadHead head.stream NotPost) head refl
bad_head_none NotGrpc head = before_end (events.BadHead head.stream NotGrpc) head refl
bad_head_none BadTimeout head = before_end (events.BadHead head.stream BadTimeout) head refl
bad_head_none OutOfMemory head = before_end (events.BadHead head.stream OutOfMemory) head refl

head_none : (head : FrameHead) (fields : List Field) (history next : List Event)
    (given : List InEvent)
    → HeadGives head fields history given next → CountsNone given
head_none head fields history next given (inl (call, is, e, same)) =
    none_same given _ e (before_end (events.Open head.stream call) head refl)
head_none head fields history next given (inr (fault, first, e, same)) =
    none_same given _ e (bad_head_none fault head)

fields_none : (judged : FrameAction) (head : FrameHead) (fields : List Field)
    (history next : List Event) (given : List InEvent)
    → FieldsGive judged head fields history given next → CountsNone given
fields_none Open head fields history next given gives =
    head_none head fields history next given gives
fields_none Accept head fields history next given (e, same) =
    none_same given _ e (trailers_none (are_malformed_trailers fields) head)
fields_none Discard head fields history next given (e, same) = none_same given _ e refl
fields_none (StreamError error) head fields history next given (e, same) = none_same given _ e refl
fields_none (ConnectionError error) head fields history next given (e, same) =
    none_same given _ e refl

block_none : (kept kept_next : Option Table) (head : FrameHead) (judged : FrameAction)
    (block : List ℕ) (history next : List Event) (given : List InEvent)
    → BlockGives kept head judged block history given next kept_next → CountsNone given
block_none kept kept_next head judged block history next given (inl (fields, reads, gives)) =
    fields_none judged head fields history next given gives
block_none kept kept_next head judged block history next given
    (inr (fault, first, memory, e, same)) = none_same given _ e refl

-- ---- groups, and runs of them

group_within : (old new : Situation) (group : Group) (given : List InEvent)
    → GroupGives old group given new → IsWithin given (payloads (entries_of group))
group_within old new (Single frame) given (gives, same) =
    omega (
      arith,
      kind_within frame.head.kind old.history new.history frame given gives,
      sum_by-cons payload_of (Whole frame) [],
    )
group_within old new (Credit id) given (e, next, same) =
    none_within given _
    (none_same given _ e (refusal_none (credit_verdict old.history id) (credit_head id)))
group_within old new (Block frames block) given (is_begun, whole, gives) =
    none_within given _ (block_none old.kept new.kept block.head (verdict old.history block.head)
    block.block _ new.history given gives)

runs_within : (old new : Situation) (groups : List Group) (given : List InEvent)
    → Runs old groups given new → IsWithin given (payloads (front_of groups))
runs_within old new [] given (e, same) = none_within given _ (none_same given [] e refl)
runs_within old new (group ∷ groups) given (first, others, next, gives, calm, runs, e) =
    omega (
      arith,
      ap counted_told e,
      sum_by-append counted_by first others,
      sum_by-append payload_of (entries_of group) (front_of groups),
      group_within old next group first gives,
      runs_within next new groups others runs,
    )

last_none : (given : List InEvent) → IsLast given → CountsNone given
last_none given (inl e) = none_same given [] e refl
last_none given (inr (error, e)) = none_same given _ e refl

pub told_within : (bytes : List ℕ) (given : List InEvent) (entries : List Entry)
    → Framed bytes given entries → counted_told given ≤ payloads entries
told_within bytes given entries (inl (unread, none)) =
    none_within given _ (last_none given (unread_last bytes given unread))
told_within bytes given entries (inr so) =
    let is : entries ≡ front_of so.passes.groups =
    append_cancel_right entries (front_of so.passes.groups) so.behind (so.passes.parts
    ∙ ap (λ (es : List Entry). es ++ so.behind) (sym (front_is so.passes.groups))) in
    omega (
      arith,
      ap counted_told so.all,
      sum_by-append counted_by so.before so.last,
      runs_within start so.now so.passes.groups so.before so.passes.runs,
      last_none so.last (close_last so.close so.now so.behind so.rest so.last so.closes),
      ap payloads is,
    )
