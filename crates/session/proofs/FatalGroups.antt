-- The events of a group are calm, or the end of the connection and nothing else.
use Rattle.std.proofs.Common.{
  ◌≡◌,
  ℕ,
  ◌⊎◌,
  inl,
  inr,
  Bool,
  true,
  false,
  List,
  [],
  ◌∷◌,
  refl,
  sym,
  subst,
}
use Rattle.std.specs.Prelude.{Option, ◌==◌, if◌then◌else◌}
use Rattle.h2frame.specs.declared.error_code.ErrorCode.TheVariants.{ProtocolError}
use Rattle.h2frame.specs.declared.frame.Frame.{Frame}
use Rattle.h2frame.specs.declared.frame.FrameHead.{FrameHead}
use Rattle.h2frame.specs.declared.kind.FrameKind.{FrameKind}
use Rattle.h2frame.specs.declared.kind.FrameKind.TheVariants.{
  Data,
  Headers,
  Priority,
  RstStream,
  Settings,
  PushPromise,
  Ping,
  GoAway,
  WindowUpdate,
  Continuation,
  Unknown,
}
use Rattle.h2frame.specs.Flags.{has, ack, end_stream}
use Rattle.lists.specs.declared.field.Field.{Field}
use Rattle.hpack_codec.specs.Table.{Table}
use Rattle.callhead.specs.declared.fault.HeadFault.{HeadFault}
use Rattle.callhead.specs.declared.fault.HeadFault.TheVariants.{Malformed}
use Rattle.callhead.specs.MalformedHeads.{are_malformed_trailers}
use Rattle.streamstates.specs.declared.halves.FrameAction.{FrameAction}
use Rattle.streamstates.specs.declared.halves.FrameAction.TheVariants.{
  Open,
  Accept,
  Discard,
  StreamError,
  ConnectionError,
}
use Rattle.streamstates.specs.Halves.{Event, verdict}
use Rattle.reasons.specs.declared.Reason.{Reason}
use Rattle.session.specs.declared.event.InEvent.{InEvent}
use Rattle.session.specs.declared.event.InEvent.TheVariants as events
use Rattle.session.specs.Streams.{
  counted,
  end_of,
  refusal,
  data_events,
  reset_events,
  window_event,
  window_events,
  credit_head,
  credit_verdict,
}
use Rattle.session.specs.Frames.{fatal, SettingsGive, ping_events, WindowGives, KindGives}
use Rattle.session.specs.Blocks.{bad_head_events, trailer_events, HeadGives, FieldsGive, BlockGives}
use Rattle.session.specs.Events.{Situation, Group, Single, Credit, Block, GroupGives, IsCalm}
use Rattle.session.proofs.Groups.{calm_join}

abbrev pub IsCalmOrEnd : List InEvent → Type 0
IsCalmOrEnd given = IsCalm given ⊎ ((why : Reason) × (given ≡ fatal why))

same_events : (given due : List InEvent) → given ≡ due → IsCalmOrEnd due → IsCalmOrEnd given
same_events given due e is = subst IsCalmOrEnd (sym e) is

-- ---- frames of a stream

end_calm : (head : FrameHead) → IsCalm (end_of head)
end_calm head =
    elim (has end_stream head.flags)
    as (λ (b : Bool). IsCalm (if b then events.End head.stream ∷ [] else []))
    [ true ↦ refl | false ↦ refl ]

counted_calm : (n : ℕ) (event : InEvent) → IsCalm (event ∷ []) → IsCalm (counted n event)
counted_calm n event calm =
    elim (n == 0) as (λ (b : Bool). IsCalm (if b then [] else event ∷ []))
    [ true ↦ refl | false ↦ calm ]

refusal_or_end : (judged : FrameAction) (head : FrameHead) → IsCalmOrEnd (refusal judged head)
refusal_or_end Open head = inl refl
refusal_or_end Accept head = inl refl
refusal_or_end Discard head = inl refl
refusal_or_end (StreamError error) head = inl refl
refusal_or_end (ConnectionError error) head = inr (_, refl)

data_or_end : (judged : FrameAction) (frame : Frame) → IsCalmOrEnd (data_events judged frame)
data_or_end Accept frame =
    inl (calm_join
    (counted frame.head.length (events.Data frame.head.stream frame.content frame.head.length))
    (end_of frame.head) (counted_calm frame.head.length _ refl) (end_calm frame.head))
data_or_end (ConnectionError error) frame = inr (_, refl)
data_or_end Open frame =
    inl (calm_join (counted frame.head.length (events.Loose frame.head.length)) []
    (counted_calm frame.head.length _ refl) refl)
data_or_end Discard frame =
    inl (calm_join (counted frame.head.length (events.Loose frame.head.length)) []
    (counted_calm frame.head.length _ refl) refl)
data_or_end (StreamError error) frame =
    inl (calm_join (counted frame.head.length (events.Loose frame.head.length))
    (events.StreamError frame.head.stream error ∷ []) (counted_calm frame.head.length _ refl) refl)

reset_or_end : (judged : FrameAction) (frame : Frame) → IsCalmOrEnd (reset_events judged frame)
reset_or_end Accept frame = inl refl
reset_or_end Open frame = inl refl
reset_or_end Discard frame = inl refl
reset_or_end (StreamError error) frame = inl refl
reset_or_end (ConnectionError error) frame = inr (_, refl)

credit_or_end : (judged : FrameAction) (frame : Frame) → IsCalmOrEnd (window_events judged frame)
credit_or_end Accept frame = inl refl
credit_or_end Open frame = inl refl
credit_or_end Discard frame = inl refl
credit_or_end (StreamError error) frame = inl refl
credit_or_end (ConnectionError error) frame = inr (_, refl)

-- ---- frames of the connection

settings_or_end : (acked : Bool) (content : List ℕ) (given : List InEvent)
    → SettingsGive acked content given → IsCalmOrEnd given
settings_or_end true content given e = same_events given [] e (inl refl)
settings_or_end false content given (inl (settings, tells, e)) = same_events given _ e (inl refl)
settings_or_end false content given (inr (error, refused, e)) = inr (error, e)

ping_or_end : (acked : Bool) (content : List ℕ) → IsCalmOrEnd (ping_events acked content)
ping_or_end true content = inl refl
ping_or_end false content = inl refl

window_or_end : (connection : Bool) (history next : List Event) (frame : Frame)
    (given : List InEvent)
    → WindowGives connection history frame given next → IsCalmOrEnd given
window_or_end true history next frame given (e, same) =
    same_events given (window_event frame ∷ []) e (inl refl)
window_or_end false history next frame given (e, same) =
    same_events given _ e (credit_or_end (verdict history frame.head) frame)

kind_or_end : (kind : FrameKind) (history next : List Event) (frame : Frame) (given : List InEvent)
    → KindGives kind history frame given next → IsCalmOrEnd given
kind_or_end Data history next frame given (e, same) =
    same_events given _ e (data_or_end (verdict history frame.head) frame)
kind_or_end RstStream history next frame given (e, same) =
    same_events given _ e (reset_or_end (verdict history frame.head) frame)
kind_or_end WindowUpdate history next frame given gives =
    window_or_end (frame.head.stream == 0) history next frame given gives
kind_or_end Settings history next frame given (gives, same) =
    settings_or_end (has ack frame.head.flags) frame.content given gives
kind_or_end Ping history next frame given (e, same) =
    same_events given _ e (ping_or_end (has ack frame.head.flags) frame.content)
kind_or_end GoAway history next frame given (e, same) =
    same_events given (events.PeerGoaway ∷ []) e (inl refl)
kind_or_end PushPromise history next frame given (e, same) = inr (_, e)
kind_or_end Continuation history next frame given (e, same) = inr (_, e)
kind_or_end Priority history next frame given (e, same) = same_events given [] e (inl refl)
kind_or_end (Unknown code) history next frame given (e, same) = same_events given [] e (inl refl)
kind_or_end Headers history next frame given gives = absurd gives

-- ---- header blocks

bad_head_calm : (fault : HeadFault) (head : FrameHead) → IsCalm (bad_head_events fault head)
bad_head_calm Malformed head = refl
bad_head_calm _ head = end_calm head

head_calm : (head : FrameHead) (fields : List Field) (history next : List Event)
    (given : List InEvent)
    → HeadGives head fields history given next → IsCalm given
head_calm head fields history next given (inl (call, is, e, same)) = rw e (end_calm head)
head_calm head fields history next given (inr (fault, first, e, same)) =
    rw e (bad_head_calm fault head)

trailers_or_end : (malformed : Bool) (head : FrameHead)
    → IsCalmOrEnd (trailer_events malformed head)
trailers_or_end true head = refusal_or_end (StreamError ProtocolError) head
trailers_or_end false head = inl (end_calm head)

fields_or_end : (judged : FrameAction) (head : FrameHead) (fields : List Field)
    (history next : List Event) (given : List InEvent)
    → FieldsGive judged head fields history given next → IsCalmOrEnd given
fields_or_end Open head fields history next given gives =
    inl (head_calm head fields history next given gives)
fields_or_end Accept head fields history next given (e, same) =
    same_events given _ e (trailers_or_end (are_malformed_trailers fields) head)
fields_or_end Discard head fields history next given (e, same) =
    same_events given _ e (refusal_or_end Discard head)
fields_or_end (StreamError error) head fields history next given (e, same) =
    same_events given _ e (refusal_or_end (StreamError error) head)
fields_or_end (ConnectionError error) head fields history next given (e, same) =
    same_events given _ e (refusal_or_end (ConnectionError error) head)

block_or_end : (kept kept_next : Option Table) (head : FrameHead) (judged : FrameAction)
    (block : List ℕ) (history next : List Event) (given : List InEvent)
    → BlockGives kept head judged block history given next kept_next → IsCalmOrEnd given
block_or_end kept kept_next head judged block history next given (inl (fields, reads, gives)) =
    fields_or_end judged head fields history next given gives
block_or_end kept kept_next head judged block history next given
    (inr (fault, first, memory, e, same)) = inr (_, e)

pub group_or_end : (old new : Situation) (group : Group) (given : List InEvent)
    → GroupGives old group given new → IsCalmOrEnd given
group_or_end old new (Single frame) given gives =
    kind_or_end frame.head.kind old.history new.history frame given gives.0
group_or_end old new (Credit id) given gives =
    same_events given _ gives.0 (refusal_or_end (credit_verdict old.history id) (credit_head id))
group_or_end old new (Block frames block) given gives =
    block_or_end old.kept new.kept block.head (verdict old.history block.head) block.block _
    new.history given gives.2
