-- What the frames of a stream mean (RFC 9113, sections 5.1, 6.1, 6.4 and 6.9), given the frames
-- before them and the streams that the server reset. A stream is reset at once where one of its
-- frames is an error of the stream.
use Rattle.std.specs.Prelude.{ℕ, Bool, true, false, ◌==◌, if◌then◌else◌, List, [], ◌∷◌, ◌++◌}
use Rattle.std.specs.Int.{w32, from_be_bytes}
use Rattle.h2frame.specs.declared.error_code.ErrorCode.TheVariants.{ProtocolError}
use Rattle.h2frame.specs.declared.frame.Frame.{Frame}
use Rattle.h2frame.specs.declared.frame.FrameHead.{FrameHead}
use Rattle.h2frame.specs.declared.kind.FrameKind.TheVariants.{WindowUpdate}
use Rattle.h2frame.specs.ErrorCode.{error_of}
use Rattle.h2frame.specs.Faults.{increment_of}
use Rattle.h2frame.specs.Flags.{has, end_stream}
use Rattle.streamstates.specs.declared.halves.FrameAction.{FrameAction}
use Rattle.streamstates.specs.declared.halves.FrameAction.TheVariants.{
  Open,
  Accept,
  StreamError,
  ConnectionError,
}
use Rattle.streamstates.specs.Halves.{Event, Received, Cut, verdict}
use Rattle.reasons.specs.declared.Reason.TheVariants as reason
use Rattle.session.specs.declared.event.PeerControl.TheVariants.{Window}
use Rattle.session.specs.declared.event.InEvent.{InEvent}
use Rattle.session.specs.declared.event.InEvent.TheVariants as events

-- the history after a frame with this verdict: an error of the stream resets it
abbrev pub after : FrameAction → ℕ → List Event → List Event
after (StreamError error) id history = Cut id ∷ history
after _ id history = history

abbrev pub after_frame : FrameAction → FrameHead → List Event → List Event
after_frame judged head history = after judged head.stream (Received head ∷ history)

-- the verdicts of frames that are no error: HEADERS with them open a stream, or are its trailers
abbrev pub is_accepted : FrameAction → Bool
is_accepted Open = true
is_accepted Accept = true
is_accepted _ = false

-- the events of a frame with a verdict other than Accept
abbrev pub refusal : FrameAction → FrameHead → List InEvent
refusal (StreamError error) head = events.StreamError head.stream error ∷ []
refusal (ConnectionError error) head = events.Fatal (reason.Stream head.kind error) ∷ []
refusal _ head = []

-- DATA that count no byte have no event; padding counts
abbrev pub counted : ℕ → InEvent → List InEvent
counted flow_bytes event = if flow_bytes == 0 then [] else event ∷ []

abbrev pub end_of : FrameHead → List InEvent
end_of head = if has end_stream head.flags then events.End head.stream ∷ [] else []

-- DATA on a stream that takes no more still count on the connection
abbrev pub data_events : FrameAction → Frame → List InEvent
data_events Accept frame =
    counted frame.head.length (events.Data frame.head.stream frame.content frame.head.length)
    ++ end_of frame.head
data_events (ConnectionError error) frame = refusal (ConnectionError error) frame.head
data_events judged frame =
    counted frame.head.length (events.Loose frame.head.length) ++ refusal judged frame.head

-- RST_STREAM has the error in four bytes
abbrev pub reset_events : FrameAction → Frame → List InEvent
reset_events Accept frame =
    events.Reset frame.head.stream (error_of (from_be_bytes w32 frame.content)) ∷ []
reset_events judged frame = refusal judged frame.head

abbrev pub window_event : Frame → InEvent
window_event frame = events.Control (Window frame.head.stream (increment_of frame.content))

abbrev pub window_events : FrameAction → Frame → List InEvent
window_events Accept frame = window_event frame ∷ []
window_events judged frame = refusal judged frame.head

-- WINDOW_UPDATE without an increment is judged as one with it, and where that is lawful it is an
-- error of the stream
abbrev pub credit_head : ℕ → FrameHead
credit_head id =
    record { kind = WindowUpdate; flags = record { bits = 0 }; stream = id; length = 4 }

abbrev pub without_increment : FrameAction → FrameAction
without_increment Accept = StreamError ProtocolError
without_increment judged = judged

abbrev pub credit_verdict : List Event → ℕ → FrameAction
credit_verdict history id = without_increment (verdict history (credit_head id))
