-- Which runs of a server's writer are lawful (RFC 9113, sections 3.4, 4.1 to 4.3, 5.1, 5.4.2, 6.4,
-- 6.5, 6.7 to 6.10 and 8.1).
use Rattle.std.specs.Prelude.{
  ◌≡◌,
  ◌≢◌,
  ℕ,
  ◌+◌,
  ◌-◌,
  min,
  ◌<◌,
  ◌≤◌,
  ◌⊎◌,
  ◌==◌,
  ◌&&◌,
  ◌||◌,
  ◌^◌,
  Bool,
  true,
  false,
  List,
  [],
  ◌∷◌,
  ◌++◌,
  Option,
  None,
  Some,
  not,
  filter,
  if◌then◌else◌,
}
use Rattle.std.specs.List.{list_any}
use Rattle.std.specs.Option.{option_map}
use Rattle.account.specs.Accounts.{Begins}
use Rattle.limits.specs.declared.TheConstants.{MAX_WINDOW}
use Rattle.sendwindows.specs.WindowHistory.{room_after}
use Rattle.sendwindows.specs.WindowHistory.{Step as WindowStep}
use Rattle.h2frame.specs.declared.error_code.ErrorCode.{ErrorCode}
use Rattle.h2frame.specs.declared.frame.Frame.{Frame}
use Rattle.h2frame.specs.declared.kind.FrameKind.{FrameKind}
use Rattle.h2frame.specs.declared.kind.FrameKind.TheVariants as kind
use Rattle.outwriter.specs.declared.control.WriterOrder.TheVariants.{
  Settings,
  Ping,
  Probe,
  Open,
  Reset,
  Goaway,
}
use Rattle.outwriter.specs.Frames.{
  IsSound,
  first_settings,
  settings_ack,
  ping_ack,
  ping_frame,
  reset_frame,
  goaway_frame,
  update_frame,
  ends_stream,
  ends_block,
  is_last,
  update_on,
  resets,
  ends,
}
use Rattle.outwriter.specs.Histories.{HasHistory, is_stream, resets_stream, was_reset}
use Rattle.outwriter.specs.Steps.{Step, Order, Taken, Granted, Written, Returned, frames_of}

-- ---- what controls oblige to write

-- acknowledgements (sections 6.5.3 and 6.7), a PING of the server's own (section 6.7) and GOAWAY
-- (section 6.8), each as a whole frame
abbrev pub due_by : Order → List Frame
due_by (Settings settings) = settings_ack ∷ []
due_by (Ping bytes) = ping_ack bytes ∷ []
due_by (Probe bytes) = ping_frame bytes ∷ []
due_by (Goaway last reason) = goaway_frame last reason ∷ []
due_by _ = []

-- what the controls of a run ask for, in order
abbrev pub due : List Step → List Frame
due [] = []
due (Taken order ∷ before) = due before ++ due_by order
due (Granted id n ∷ before) = due before
due (Returned id items ∷ before) = due before
due (Written frame ∷ before) = due before

-- A frame of this kind comes only where a control asks for it. A stream's DATA, header blocks and
-- reset have rules of their own, and so has credit.
abbrev pub is_duty : FrameKind → Bool
is_duty kind.Data = false
is_duty kind.Headers = false
is_duty kind.RstStream = false
is_duty kind.WindowUpdate = false
is_duty kind.Continuation = false
is_duty _ = true

-- the first frame was written
abbrev pub has_begun : List Frame → Bool
has_begun [] = false
has_begun (frame ∷ frames) = true

-- no control asks for the first frame
abbrev pub told_by : Bool → Frame → List Frame
told_by begun frame = if is_duty frame.head.kind && begun then frame ∷ [] else []

-- what was written of that, in order
abbrev pub told : List Step → List Frame
told [] = []
told (Taken order ∷ before) = told before
told (Granted id n ∷ before) = told before
told (Returned id items ∷ before) = told before
told (Written frame ∷ before) = told before ++ told_by (has_begun (frames_of before)) frame

-- acknowledgements and PINGs have one order, and GOAWAYs another
abbrev pub is_goaway : FrameKind → Bool
is_goaway kind.GoAway = true
is_goaway _ = false

abbrev pub goaways : List Frame → List Frame
goaways frames = filter (λ frame. is_goaway frame.head.kind) frames

abbrev pub without_goaway : List Frame → List Frame
without_goaway frames = filter (λ frame. not (is_goaway frame.head.kind)) frames

-- these are among those, in order
abbrev pub AreAmong : List Frame → List Frame → Type 0
AreAmong frames [] = frames ≡ []
AreAmong frames (first ∷ others) =
    AreAmong frames others ⊎ ((rest : List Frame) × (frames ≡ first ∷ rest) × AreAmong rest others)

-- ---- resets (section 6.4)

-- a control that asks for an RST_STREAM of this stream, with this error
abbrev pub Asks : ℕ → ErrorCode → Order → Type 0
Asks id code (Reset stream found true) = (id ≡ stream) × (code ≡ found)
Asks id code _ = ⊥

-- Such a control was taken, as the first Reset of the stream: no RST_STREAM answers the peer's
-- (section 5.4.2).
abbrev pub IsAsked : ℕ → ErrorCode → List Step → Type 0
IsAsked id code [] = ⊥
IsAsked id code (Taken order ∷ before) =
    (Asks id code order × (was_reset id before ≡ false)) ⊎ IsAsked id code before
IsAsked id code (Granted stream n ∷ before) = IsAsked id code before
IsAsked id code (Returned stream items ∷ before) = IsAsked id code before
IsAsked id code (Written frame ∷ before) = IsAsked id code before

-- after a Reset a stream has only the rest of a header block that was begun, and its RST_STREAM
-- (sections 5.1 and 5.4.2)
abbrev pub MayFollowReset : FrameKind → Type 0
MayFollowReset found = (found ≡ kind.RstStream) ⊎ (found ≡ kind.Continuation)

-- ---- header blocks (section 4.3)

-- a header block as far as it was written, and whether it ends its stream
pub record Fragments : Type 0 where
  pub stream : ℕ
  pub bytes : List ℕ
  pub ends_it : Bool

-- the fragments that a frame begins or goes on, where it is one of a header block
abbrev pub fragments_kind : FrameKind → Frame → Option Fragments → Option Fragments
fragments_kind kind.Headers frame begun =
    Some (record { stream = frame.head.stream; bytes = frame.content; ends_it = ends_stream frame })
fragments_kind kind.Continuation frame begun =
    option_map (λ block. record {
      stream = block.stream;
      bytes = block.bytes ++ frame.content;
      ends_it = block.ends_it;
    }) begun
fragments_kind _ frame begun = None

abbrev pub fragments : Frame → Option Fragments → Option Fragments
fragments frame begun = fragments_kind frame.head.kind frame begun

-- the header block that was begun and isn't whole
abbrev pub unfinished : List Step → Option Fragments
unfinished [] = None
unfinished (Taken order ∷ before) = unfinished before
unfinished (Granted id n ∷ before) = unfinished before
unfinished (Returned id items ∷ before) = unfinished before
unfinished (Written frame ∷ before) =
    if ends_block frame then None else fragments frame (unfinished before)

-- nothing comes between the frames of a header block, and a CONTINUATION nowhere else
abbrev pub Continues : Option Fragments → Frame → Type 0
Continues (Some block) frame =
    (frame.head.kind ≡ kind.Continuation) × (frame.head.stream ≡ block.stream)
Continues None frame = frame.head.kind ≢ kind.Continuation

-- ---- credit (section 6.9)

abbrev pub opens_stream : ℕ → Order → Bool
opens_stream id (Open stream sender) = id == stream
opens_stream id _ = false

-- an Open of the stream was taken
abbrev pub is_opened : ℕ → List Step → Bool
is_opened id [] = false
is_opened id (Taken order ∷ before) = opens_stream id order || is_opened id before
is_opened id (Granted stream n ∷ before) = is_opened id before
is_opened id (Returned stream items ∷ before) = is_opened id before
is_opened id (Written frame ∷ before) = is_opened id before

-- credit may be owed on the connection, as stream 0, and on a stream that was opened and not reset
abbrev pub may_owe : ℕ → List Step → Bool
may_owe id run = (id == 0) || ((is_stream id && is_opened id run) && not (was_reset id run))

-- What is owed: what was granted while credit could be owed, at most 2^31 - 1 at once, less what
-- was written. Nothing is owed on a stream that was reset.
abbrev pub owed : ℕ → List Step → ℕ
owed id [] = 0
owed id (Taken order ∷ before) =
    if resets_stream id order && is_stream id then 0 else owed id before
owed id (Granted stream n ∷ before) =
    if (id == stream) && may_owe id before then min (owed id before + n) MAX_WINDOW
    else owed id before
owed id (Returned stream items ∷ before) = owed id before
owed id (Written frame ∷ before) = owed id before - update_on id frame

-- ---- the law

-- DATA fits into a frame and, unless it is empty, into the windows that the steps before leave
-- (sections 4.2 and 6.9.1)
abbrev pub FitsWindows : List Step → Frame → Type 0
FitsWindows before frame = (frame.head.length ≤ 16384)
    × (0 < frame.head.length
    → (history : List WindowStep) × HasHistory before history
    × (frame.head.length ≤ room_after history frame.head.stream))

-- after END_STREAM a stream has only the rest of the header block that has it, and WINDOW_UPDATE
-- (section 5.1)
abbrev pub MayFollowEnd : FrameKind → Type 0
MayFollowEnd found = (found ≡ kind.WindowUpdate) ⊎ (found ≡ kind.Continuation)

-- a frame may be written after these steps
pub record MayWrite (before : List Step) (frame : Frame) : Type 0 where
  -- first come SETTINGS
  pub first : frames_of before ≡ [] → frame ≡ first_settings
  pub windows : frame.head.kind ≡ kind.Data → FitsWindows before frame
  -- DATA has bytes, or ends its stream
  pub content : frame.head.kind ≡ kind.Data → (0 < frame.head.length) ⊎ (ends_stream frame ≡ true)
  -- acknowledgements and PINGs come after the controls that ask for them, and in their order; the
  -- only other frames are DATA, header blocks, resets, credit and GOAWAY
  pub answers :
      Begins (without_goaway (told before ++ told_by (has_begun (frames_of before)) frame))
      (without_goaway (due before))
  -- GOAWAY comes after the control that asks for it, and in order among GOAWAYs
  pub parts :
      AreAmong (goaways (told before ++ told_by (has_begun (frames_of before)) frame))
      (goaways (due before))
  -- a reset comes after the control that asks for it, which is the first Reset of its stream
  pub asked : frame.head.kind ≡ kind.RstStream
      → (code : ErrorCode) × IsAsked frame.head.stream code before
      × (frame ≡ reset_frame frame.head.stream code)
  -- after a Reset nothing else comes on its stream
  pub after_reset : is_stream frame.head.stream ≡ true → was_reset frame.head.stream before ≡ true
      → MayFollowReset frame.head.kind
  pub block : Continues (unfinished before) frame
  pub not_reset : list_any (resets frame.head.stream) (frames_of before) ≡ false
  pub not_ended : list_any (ends frame.head.stream) (frames_of before) ≡ true
      → MayFollowEnd frame.head.kind
  pub goes_on : list_any is_last (frames_of before) ≡ false
  -- no more credit comes than is owed
  pub owes : (id : ℕ) → update_on id frame ≤ owed id before
  -- credit is of 1 to 2^31 - 1 bytes, and its frame has nothing else
  pub update : frame.head.kind ≡ kind.WindowUpdate
      → (n : ℕ) × (0 < n) × (n < 2 ^ 31) × (frame ≡ update_frame frame.head.stream n)

-- each frame of the run is sound, and may be written after the steps before it
abbrev pub IsLawful : List Step → Type 0
IsLawful [] = Unit {0}
IsLawful (Taken order ∷ before) = IsLawful before
IsLawful (Granted id n ∷ before) = IsLawful before
IsLawful (Returned id items ∷ before) = IsLawful before
IsLawful (Written frame ∷ before) = IsSound frame × MayWrite before frame × IsLawful before
