-- How the events of groups tell the end of a stream: those of another stream tell none.
use Rattle.std.proofs.Common.{
  ◌≡◌,
  ℕ,
  inl,
  inr,
  Bool,
  true,
  false,
  nat_eq,
  List,
  [],
  ◌∷◌,
  ◌++◌,
  refl,
  sym,
  ap,
  ◌∙◌,
}
use Rattle.std.specs.Prelude.{Option, ◌==◌, if◌then◌else◌}
use Rattle.h2frame.specs.declared.error_code.ErrorCode.TheVariants.{ProtocolError}
use Rattle.h2frame.specs.declared.frame.Frame.{Frame}
use Rattle.h2frame.specs.declared.frame.FrameHead.{FrameHead}
use Rattle.h2frame.specs.declared.kind.FrameKind.{FrameKind}
use Rattle.h2frame.specs.declared.kind.FrameKind.TheVariants.{
  Data,
  Headers,
  Priority,
  RstStream,
  Settings,
  PushPromise,
  Ping,
  GoAway,
  WindowUpdate,
  Continuation,
  Unknown,
}
use Rattle.h2frame.specs.Flags.{has, ack, end_stream}
use Rattle.lists.specs.declared.field.Field.{Field}
use Rattle.hpack_codec.specs.Table.{Table}
use Rattle.callhead.specs.MalformedHeads.{are_malformed_trailers}
use Rattle.callhead.specs.declared.fault.HeadFault.{HeadFault}
use Rattle.callhead.specs.declared.fault.HeadFault.TheVariants.{Malformed}
use Rattle.streamstates.specs.declared.halves.FrameAction.{FrameAction}
use Rattle.streamstates.specs.declared.halves.FrameAction.TheVariants.{
  Open,
  Accept,
  Discard,
  StreamError,
  ConnectionError,
}
use Rattle.streamstates.specs.Halves.{Event, verdict}
use Rattle.session.specs.declared.event.InEvent.{InEvent}
use Rattle.session.specs.declared.event.InEvent.TheVariants as events
use Rattle.session.specs.Streams.{
  counted,
  end_of,
  refusal,
  data_events,
  reset_events,
  window_events,
  credit_head,
  credit_verdict,
}
use Rattle.session.specs.Frames.{SettingsGive, ping_events, WindowGives, KindGives}
use Rattle.session.specs.Blocks.{bad_head_events, trailer_events, HeadGives, FieldsGive, BlockGives}
use Rattle.session.specs.Events.{Situation, Group, Single, Credit, Block, GroupGives}
use Rattle.session.specs.StreamData.{
  Ending,
  Unended,
  Finished,
  Aborted,
  end_told,
  first_end,
  ending_told,
}
use Rattle.session.proofs.StreamGroups.{stream_at}

first_first : (a b c : Ending) → first_end (first_end a b) c ≡ first_end a (first_end b c)
first_first Unended b c = refl
first_first Finished b c = refl
first_first Aborted b c = refl

pub told_append : (id : ℕ) (xs ys : List InEvent)
    → ending_told id (xs ++ ys) ≡ first_end (ending_told id xs) (ending_told id ys)
told_append id [] ys = refl
told_append id (x ∷ xs) ys =
    ap (first_end (end_told id x)) (told_append id xs ys)
    ∙ sym (first_first (end_told id x) (ending_told id xs) (ending_told id ys))

pub first_unended : (a b : Ending) → first_end a b ≡ Unended → (a ≡ Unended) × (b ≡ Unended)
first_unended Unended b e = (refl, e)
first_unended Finished b e = absurd cc
first_unended Aborted b e = absurd cc

abbrev pub IsQuiet : ℕ → List InEvent → Type 0
IsQuiet id given = ending_told id given ≡ Unended

pub quiet_join : (id : ℕ) (xs ys : List InEvent) → IsQuiet id xs → IsQuiet id ys
    → IsQuiet id (xs ++ ys)
quiet_join id xs ys p q =
    told_append id xs ys ∙ ap (λ (e : Ending). first_end e (ending_told id ys)) p ∙ q

pub quiet_same : (id : ℕ) (given due : List InEvent) → given ≡ due → IsQuiet id due
    → IsQuiet id given
quiet_same id given due e quiet = ap (ending_told id) e ∙ quiet

-- ---- of another stream

end_elsewhere : (id : ℕ) (head : FrameHead) → nat_eq id head.stream ≡ false
    → IsQuiet id (end_of head)
end_elsewhere id head other =
    elim (has end_stream head.flags)
    as (λ (b : Bool). IsQuiet id (if b then events.End head.stream ∷ [] else [])) [
      | true ↦ ap (λ (b : Bool). first_end (if b then Finished else Unended) Unended) other
      | false ↦ refl
    ]

pub refusal_elsewhere : (id : ℕ) (judged : FrameAction) (head : FrameHead)
    → nat_eq id head.stream ≡ false → IsQuiet id (refusal judged head)
refusal_elsewhere id (StreamError error) head other =
    ap (λ (b : Bool). first_end (if b then Aborted else Unended) Unended) other
refusal_elsewhere id Open head other = refl
refusal_elsewhere id Accept head other = refl
refusal_elsewhere id Discard head other = refl
refusal_elsewhere id (ConnectionError error) head other = refl

pub counted_quiet : (id n : ℕ) (event : InEvent) → end_told id event ≡ Unended
    → IsQuiet id (counted n event)
counted_quiet id n event quiet =
    elim (n == 0) as (λ (b : Bool). IsQuiet id (if b then [] else event ∷ []))
    [ true ↦ refl | false ↦ ap (λ (e : Ending). first_end e Unended) quiet ]

data_elsewhere : (id : ℕ) (judged : FrameAction) (frame : Frame)
    → nat_eq id frame.head.stream ≡ false → IsQuiet id (data_events judged frame)
data_elsewhere id Accept frame other =
    quiet_join id
    (counted frame.head.length (events.Data frame.head.stream frame.content frame.head.length))
    (end_of frame.head) (counted_quiet id frame.head.length
    (events.Data frame.head.stream frame.content frame.head.length) refl)
    (end_elsewhere id frame.head other)
data_elsewhere id (ConnectionError error) frame other = refl
data_elsewhere id Open frame other =
    quiet_join id (counted frame.head.length (events.Loose frame.head.length)) []
    (counted_quiet id frame.head.length (events.Loose frame.head.length) refl) refl
data_elsewhere id Discard frame other =
    quiet_join id (counted frame.head.length (events.Loose frame.head.length)) []
    (counted_quiet id frame.head.length (events.Loose frame.head.length) refl) refl
data_elsewhere id (StreamError error) frame other =
    quiet_join id (counted frame.head.length (events.Loose frame.head.length))
    (events.StreamError frame.head.stream error ∷ [])
    (counted_quiet id frame.head.length (events.Loose frame.head.length) refl)
    (refusal_elsewhere id (StreamError error) frame.head other)

reset_elsewhere : (id : ℕ) (judged : FrameAction) (frame : Frame)
    → nat_eq id frame.head.stream ≡ false → IsQuiet id (reset_events judged frame)
reset_elsewhere id Accept frame other =
    ap (λ (b : Bool). first_end (if b then Aborted else Unended) Unended) other
reset_elsewhere id Open frame other = refl
reset_elsewhere id Discard frame other = refl
reset_elsewhere id (StreamError error) frame other =
    refusal_elsewhere id (StreamError error) frame.head other
reset_elsewhere id (ConnectionError error) frame other = refl

credit_elsewhere : (id : ℕ) (judged : FrameAction) (frame : Frame)
    → nat_eq id frame.head.stream ≡ false → IsQuiet id (window_events judged frame)
credit_elsewhere id Accept frame other = refl
credit_elsewhere id Open frame other = refl
credit_elsewhere id Discard frame other = refl
credit_elsewhere id (StreamError error) frame other =
    refusal_elsewhere id (StreamError error) frame.head other
credit_elsewhere id (ConnectionError error) frame other = refl

pub settings_quiet : (id : ℕ) (acked : Bool) (content : List ℕ) (given : List InEvent)
    → SettingsGive acked content given → IsQuiet id given
settings_quiet id true content given e = quiet_same id given [] e refl
settings_quiet id false content given (inl (settings, tells, e)) = quiet_same id given _ e refl
settings_quiet id false content given (inr (error, refused, e)) = quiet_same id given _ e refl

pub ping_quiet : (id : ℕ) (acked : Bool) (content : List ℕ) → IsQuiet id (ping_events acked content)
ping_quiet id true content = refl
ping_quiet id false content = refl

window_elsewhere : (id : ℕ) (connection : Bool) (history next : List Event) (frame : Frame)
    (given : List InEvent)
    → nat_eq id frame.head.stream ≡ false → WindowGives connection history frame given next
    → IsQuiet id given
window_elsewhere id true history next frame given other (e, same) = quiet_same id given _ e refl
window_elsewhere id false history next frame given other (e, same) =
    quiet_same id given _ e (credit_elsewhere id (verdict history frame.head) frame other)

kind_elsewhere : (id : ℕ) (kind : FrameKind) (history next : List Event) (frame : Frame)
    (given : List InEvent)
    → nat_eq id frame.head.stream ≡ false → KindGives kind history frame given next
    → IsQuiet id given
kind_elsewhere id Data history next frame given other (e, same) =
    quiet_same id given _ e (data_elsewhere id (verdict history frame.head) frame other)
kind_elsewhere id RstStream history next frame given other (e, same) =
    quiet_same id given _ e (reset_elsewhere id (verdict history frame.head) frame other)
kind_elsewhere id WindowUpdate history next frame given other gives =
    window_elsewhere id (frame.head.stream == 0) history next frame given other gives
kind_elsewhere id Settings history next frame given other (gives, same) =
    settings_quiet id (has ack frame.head.flags) frame.content given gives
kind_elsewhere id Ping history next frame given other (e, same) =
    quiet_same id given _ e (ping_quiet id (has ack frame.head.flags) frame.content)
kind_elsewhere id GoAway history next frame given other (e, same) = quiet_same id given _ e refl
kind_elsewhere id PushPromise history next frame given other (e, same) =
    quiet_same id given _ e refl
kind_elsewhere id Continuation history next frame given other (e, same) =
    quiet_same id given _ e refl
kind_elsewhere id Priority history next frame given other (e, same) = quiet_same id given _ e refl
kind_elsewhere id (Unknown code) history next frame given other (e, same) =
    quiet_same id given _ e refl
kind_elsewhere id Headers history next frame given other gives = absurd gives

bad_head_elsewhere : (id : ℕ) (fault : HeadFault) (head : FrameHead) → nat_eq id head.stream ≡ false
    → IsQuiet id (bad_head_events fault head)
bad_head_elsewhere id Malformed head other = refl
bad_head_elsewhere id _ head other = end_elsewhere id head other

head_elsewhere : (id : ℕ) (head : FrameHead) (fields : List Field) (history next : List Event)
    (given : List InEvent)
    → nat_eq id head.stream ≡ false → HeadGives head fields history given next → IsQuiet id given
head_elsewhere id head fields history next given other (inl (call, is, e, same)) =
    quiet_same id given _ e (end_elsewhere id head other)
head_elsewhere id head fields history next given other (inr (fault, first, e, same)) =
    quiet_same id given _ e (bad_head_elsewhere id fault head other)

trailers_elsewhere : (id : ℕ) (malformed : Bool) (head : FrameHead) → nat_eq id head.stream ≡ false
    → IsQuiet id (trailer_events malformed head)
trailers_elsewhere id true head other = refusal_elsewhere id (StreamError ProtocolError) head other
trailers_elsewhere id false head other = end_elsewhere id head other

fields_elsewhere : (id : ℕ) (judged : FrameAction) (head : FrameHead) (fields : List Field)
    (history next : List Event) (given : List InEvent)
    → nat_eq id head.stream ≡ false → FieldsGive judged head fields history given next
    → IsQuiet id given
fields_elsewhere id Open head fields history next given other gives =
    head_elsewhere id head fields history next given other gives
fields_elsewhere id Accept head fields history next given other (e, same) =
    quiet_same id given _ e (trailers_elsewhere id (are_malformed_trailers fields) head other)
fields_elsewhere id Discard head fields history next given other (e, same) =
    quiet_same id given _ e refl
fields_elsewhere id (StreamError error) head fields history next given other (e, same) =
    quiet_same id given _ e (refusal_elsewhere id (StreamError error) head other)
fields_elsewhere id (ConnectionError error) head fields history next given other (e, same) =
    quiet_same id given _ e refl

block_elsewhere : (id : ℕ) (kept kept_next : Option Table) (head : FrameHead) (judged : FrameAction)
    (block : List ℕ) (history next : List Event) (given : List InEvent)
    → nat_eq id head.stream ≡ false → BlockGives kept head judged block history given next kept_next
    → IsQuiet id given
block_elsewhere id kept kept_next head judged block history next given other
    (inl (fields, reads, gives)) =
    fields_elsewhere id judged head fields history next given other gives
block_elsewhere id kept kept_next head judged block history next given other
    (inr (fault, first, memory, e, same)) = quiet_same id given _ e refl

pub elsewhere_quiet : (id : ℕ) (old new : Situation) (group : Group) (given : List InEvent)
    → GroupGives old group given new → nat_eq id (stream_at group) ≡ false → IsQuiet id given
elsewhere_quiet id old new (Single frame) given (gives, same) other =
    kind_elsewhere id frame.head.kind old.history new.history frame given other gives
elsewhere_quiet id old new (Credit stream) given (e, next, same) other =
    quiet_same id given _ e
    (refusal_elsewhere id (credit_verdict old.history stream) (credit_head stream) other)
elsewhere_quiet id old new (Block frames block) given (begun, whole, gives) other =
    block_elsewhere id old.kept new.kept block.head (verdict old.history block.head) block.block _
    new.history given other gives
