-- What a whole header block means (RFC 9113, sections 4.3, 8.1 and 8.1.1), given the verdict of its
-- HEADERS.
use Rattle.std.specs.Prelude.{◌≡◌, ◌≢◌, ◌⊎◌, ℕ, Bool, true, false, List, [], ◌∷◌, Option}
use Rattle.h2frame.specs.declared.error_code.ErrorCode.TheVariants.{ProtocolError}
use Rattle.h2frame.specs.declared.frame.FrameHead.{FrameHead}
use Rattle.hpack_codec.specs.declared.fault.HpackFault.{HpackFault}
use Rattle.hpack_codec.specs.declared.fault.HpackFault.TheVariants.{OutOfMemory}
use Rattle.lists.specs.declared.field.Field.{Field}
use Rattle.hpack_codec.specs.Table.{Table}
use Rattle.hpack_codec.specs.Codec.{Reads, IsFirstFault}
use Rattle.callhead.specs.declared.head.CallHead.{CallHead}
use Rattle.callhead.specs.declared.fault.HeadFault.{HeadFault}
use Rattle.callhead.specs.declared.fault.HeadFault.TheVariants.{Malformed}
use Rattle.callhead.specs.Heads.{IsHead, IsFirstFault as IsFirstHeadFault}
use Rattle.callhead.specs.MalformedHeads.{are_malformed_trailers}
use Rattle.streamstates.specs.declared.halves.FrameAction.{FrameAction}
use Rattle.streamstates.specs.declared.halves.FrameAction.TheVariants.{Open, Accept, StreamError}
use Rattle.streamstates.specs.Halves.{Event, Cut}
use Rattle.reasons.specs.declared.Reason.TheVariants as reason
use Rattle.session.specs.declared.event.InEvent.{InEvent}
use Rattle.session.specs.declared.event.InEvent.TheVariants as events
use Rattle.session.specs.Streams.{refusal, end_of}
use Rattle.session.specs.Frames.{fatal}

-- a malformed head resets its stream at once, and nothing ends it; any other head may be the last
-- of its stream
abbrev pub bad_head_events : HeadFault → FrameHead → List InEvent
bad_head_events Malformed head = events.BadHead head.stream Malformed ∷ []
bad_head_events fault head = events.BadHead head.stream fault ∷ end_of head

abbrev pub after_bad_head : HeadFault → ℕ → List Event → List Event
after_bad_head Malformed id history = Cut id ∷ history
after_bad_head _ id history = history

-- the fields are the head of a call, or have this first fault
abbrev pub HeadGives : FrameHead → List Field → List Event → List InEvent → List Event → Type 0
HeadGives head fields history given next =
    ((call : CallHead) × IsHead fields call × (given ≡ events.Open head.stream call ∷ end_of head)
    × (next ≡ history))
    ⊎ ((fault : HeadFault) × IsFirstHeadFault fields fault × (given ≡ bad_head_events fault head)
    × (next ≡ after_bad_head fault head.stream history))

-- malformed trailers are an error of the stream, which resets it; other trailers end it
abbrev pub trailer_events : Bool → FrameHead → List InEvent
trailer_events true head = refusal (StreamError ProtocolError) head
trailer_events false head = end_of head

abbrev pub after_trailers : Bool → ℕ → List Event → List Event
after_trailers true id history = Cut id ∷ history
after_trailers false id history = history

-- the fields of a refused block aren't looked at
abbrev pub FieldsGive : FrameAction → FrameHead → List Field → List Event → List InEvent
    → List Event → Type 0
FieldsGive Open head fields history given next = HeadGives head fields history given next
FieldsGive Accept head fields history given next =
    (given ≡ trailer_events (are_malformed_trailers fields) head)
    × (next ≡ after_trailers (are_malformed_trailers fields) head.stream history)
FieldsGive judged head fields history given next = (given ≡ refusal judged head) × (next ≡ history)

-- The block is read with the decoder's table, whatever its stream. Its first fault ends the
-- connection.
abbrev pub BlockGives : Option Table → FrameHead → FrameAction → List ℕ → List Event → List InEvent
    → List Event → Option Table → Type 0
BlockGives kept head judged block history given next kept_next =
    ((fields : List Field) × Reads kept block fields kept_next
    × FieldsGive judged head fields history given next)
    ⊎ ((fault : HpackFault) × IsFirstFault fault kept block × (fault ≢ OutOfMemory)
    × (given ≡ fatal (reason.Hpack fault)) × (next ≡ history))
