-- The receiving halves of streams (RFC 9113, section 5.1): the verdict of a frame from the client,
-- given all frames before it and the streams that the server reset.
use Rattle.std.specs.Prelude.{
  ℕ,
  ◌%◌,
  ◌==◌,
  Bool,
  true,
  false,
  ◌&&◌,
  not,
  if◌then◌else◌,
  nat_eq,
  nat_lt,
  List,
  [],
  ◌∷◌,
  length,
  Option,
  Some,
  None,
  ◌≡◌,
  ◌<◌,
  ◌≤◌,
}
use Rattle.std.specs.List.{list_all, list_any}
use Rattle.std.specs.Map.{lookup}
use Rattle.h2frame.specs.declared.error_code.ErrorCode.TheVariants.{ProtocolError, StreamClosed}
use Rattle.h2frame.specs.declared.frame.FrameHead.{FrameHead}
use Rattle.h2frame.specs.declared.kind.FrameKind.{FrameKind}
use Rattle.h2frame.specs.declared.kind.FrameKind.TheVariants.{
  Data,
  Headers,
  RstStream,
  WindowUpdate,
}
use Rattle.h2frame.specs.Flags.{has, end_stream}
use Rattle.limits.specs.declared.TheConstants.{MAX_STREAMS}
use Rattle.streamstates.specs.declared.halves.HalfState.{HalfState}
use Rattle.streamstates.specs.declared.halves.HalfState.TheVariants.{Opened, Ended, Reset}
use Rattle.streamstates.specs.declared.halves.FrameAction.{FrameAction}
use Rattle.streamstates.specs.declared.halves.FrameAction.TheVariants.{
  Open,
  Accept,
  Discard,
  StreamError,
  ConnectionError,
}

-- a frame that the client sent, or the number of a stream that the server reset. A history has the
-- latest event first.
pub data Event : Type 0 where
  Received : FrameHead → Event
  Cut : ℕ → Event

abbrev pub stream_of : Event → ℕ
stream_of (Received head) = head.stream
stream_of (Cut id) = id

-- the kinds that are judged, each on a stream other than 0
abbrev pub is_judged_kind : FrameKind → Bool
is_judged_kind Data = true
is_judged_kind Headers = true
is_judged_kind RstStream = true
is_judged_kind WindowUpdate = true
is_judged_kind _ = false

abbrev pub IsJudged : FrameHead → Type 0
IsJudged head = (0 < head.stream) × (is_judged_kind head.kind ≡ true)

-- the streams that a client may begin have odd numbers (section 5.1.1)
abbrev pub is_odd : ℕ → Bool
is_odd id = id % 2 == 1

-- the number is greater than all of these
abbrev pub is_above : List ℕ → ℕ → Bool
is_above ids id = list_all (λ other. nat_lt other id) ids

abbrev pub is_headers : FrameKind → Bool
is_headers Headers = true
is_headers _ = false

-- HEADERS begin a stream whose number is odd, and greater than those of all streams that were begun
-- (section 5.1.1), while these are fewer than 4,096
abbrev pub begins : Event → List ℕ → Bool
begins (Received head) ids =
    is_headers head.kind
    && (is_odd head.stream && (is_above ids head.stream && nat_lt (length ids) MAX_STREAMS))
begins (Cut id) ids = false

-- the streams that were begun, the latest first
abbrev pub begun : List Event → List ℕ
begun [] = []
begun (event ∷ before) =
    if begins event (begun before) then stream_of event ∷ begun before else begun before

-- the course of a stream: the events from the HEADERS on that began it, and those before them
pub record Course : Type 0 where
  pub since : List Event
  pub before : List Event

abbrev pub further : Event → List Event → Bool → Option Course → Option Course
further event before beginning (Some course) =
    Some (record { since = event ∷ course.since; before = course.before })
further event before true None = Some (record { since = event ∷ []; before = before })
further event before false None = None

-- the course of a stream, if it was begun
abbrev pub course : ℕ → List Event → Option Course
course id [] = None
course id (event ∷ before) =
    further event before (nat_eq id (stream_of event) && begins event (begun before))
    (course id before)

-- a client's half of a stream ends with DATA or HEADERS that have END_STREAM (section 5.1)
abbrev pub is_last_of_kind : FrameKind → Bool → Bool
is_last_of_kind Data ended = ended
is_last_of_kind Headers ended = ended
is_last_of_kind _ ended = false

abbrev pub ends : Event → Bool
ends (Received head) = is_last_of_kind head.kind (has end_stream head.flags)
ends (Cut id) = false

-- either side ends a stream at once with RST_STREAM (section 5.4.2)
abbrev pub is_reset_kind : FrameKind → Bool
is_reset_kind RstStream = true
is_reset_kind _ = false

abbrev pub resets : Event → Bool
resets (Received head) = is_reset_kind head.kind
resets (Cut id) = true

-- an event on the stream that passes the test
abbrev pub is_on : (Event → Bool) → ℕ → Event → Bool
is_on test id event = nat_eq id (stream_of event) && test event

-- a begun stream counts as reset from its reset on, else as ended from its end on
abbrev pub half : ℕ → Course → HalfState
half id course =
    if list_any (is_on resets id) course.since then Reset
    else (if list_any (is_on ends id) course.since then Ended
    else Opened)

-- the state of a stream: idle, skipped since a greater one was begun, or begun
pub data State : Type 0 where
  Idle : State
  Skipped : State
  Begun : HalfState → State

abbrev pub state_of : ℕ → List Event → Option Course → State
state_of id history (Some course) = Begun (half id course)
state_of id history None = if is_odd id && not (is_above (begun history) id) then Skipped else Idle

abbrev pub state : ℕ → List Event → State
state id history = state_of id history (course id history)

-- On an idle stream only HEADERS are lawful, with an odd number. Once 4,096 streams were begun,
-- whatever comes on an odd one is dropped: its number is above that of the last stream that the
-- server serves (section 6.8).
abbrev pub on_idle : Bool → Bool → Bool → FrameAction
on_idle odd headers few =
    if odd then (if few then (if headers then Open else ConnectionError ProtocolError) else Discard)
    else ConnectionError ProtocolError

-- on an open stream further HEADERS are trailers, which end it (section 8.1)
abbrev pub on_opened : FrameKind → Bool → FrameAction
on_opened Headers false = StreamError ProtocolError
on_opened _ _ = Accept

-- a half that has ended has no more DATA and HEADERS (section 5.1, half-closed)
abbrev pub on_ended : FrameKind → FrameAction
on_ended Data = StreamError StreamClosed
on_ended Headers = StreamError StreamClosed
on_ended _ = Accept

abbrev pub on_begun : HalfState → FrameHead → FrameAction
on_begun Opened head = on_opened head.kind (has end_stream head.flags)
on_begun Ended head = on_ended head.kind
on_begun Reset head = Discard

abbrev pub judged : State → FrameHead → ℕ → FrameAction
judged Idle head count =
    on_idle (is_odd head.stream) (is_headers head.kind) (nat_lt count MAX_STREAMS)
judged Skipped head count = ConnectionError ProtocolError
judged (Begun half) head count = on_begun half head

-- the verdict of a frame, given the events before it
abbrev pub verdict : List Event → FrameHead → FrameAction
verdict history head = judged (state head.stream history) head (length (begun history))

-- ---- what is kept of a history

-- the greatest number of a begun stream, and the half of each begun stream
pub record Streams : Type 0 where
  pub greatest : ℕ
  pub halves : List (ℕ × HalfState)

-- what is kept of a stream
abbrev pub kept : State → Option HalfState
kept Idle = None
kept Skipped = None
kept (Begun half) = Some half

-- what is kept is of no more streams than may be begun
abbrev pub IsSmall : List (ℕ × HalfState) → Type 0
IsSmall halves = length halves ≤ MAX_STREAMS

-- what is kept after a history
pub record Stands (history : List Event) (streams : Streams) : Type 0 where
  pub count : length streams.halves ≡ length (begun history)
  pub greatest : (id : ℕ) → 0 < id → is_above (begun history) id ≡ nat_lt streams.greatest id
  pub each : (id : ℕ) → lookup (nat_eq id) streams.halves ≡ kept (state id history)

-- what is kept of a stream's half, if the stream was begun
abbrev pub half_of : Streams → ℕ → Option HalfState
half_of streams id = lookup (nat_eq id) streams.halves

-- an answer after which nothing has changed
abbrev pub is_error : FrameAction → Bool
is_error (StreamError code) = true
is_error (ConnectionError code) = true
is_error _ = false

-- a verdict that a frame may have on a stream which wasn't begun, if it doesn't begin it: the
-- stream is unknown
abbrev pub may_be_unbegun : FrameAction → Bool
may_be_unbegun Discard = true
may_be_unbegun (ConnectionError code) = true
may_be_unbegun _ = false

abbrev pub is_connection_error : FrameAction → Bool
is_connection_error (ConnectionError code) = true
is_connection_error _ = false

-- ---- one frame, on a begun stream and on a new one

abbrev pub moved : HalfState → Bool → Bool → HalfState
moved Opened reset last = if reset then Reset else (if last then Ended else Opened)
moved Ended reset last = if reset then Reset else Ended
moved Reset reset last = Reset

abbrev pub half_after : HalfState → Event → HalfState
half_after before event = moved before (resets event) (ends event)

abbrev pub half_of_new : Event → HalfState
half_of_new event = if ends event then Ended else Opened
