-- What a reading core keeps of the bytes that it was fed and of the events that it answered.
use Rattle.std.specs.Prelude.{
  ◌≡◌,
  ◌≢◌,
  ◌⊎◌,
  ℕ,
  Bool,
  true,
  false,
  List,
  [],
  ◌∷◌,
  ◌++◌,
  map,
  length,
  slice_get,
  ◌-◌,
  if◌then◌else◌,
  Option,
  Some,
  None,
  IsSome,
  Result,
  Ok,
  Err,
}
use Rattle.h2frame.specs.declared.fault.FrameFault.{FrameFault}
use Rattle.h2frame.specs.declared.fault.FrameFault.TheVariants.{OutOfMemory}
use Rattle.h2frame.specs.declared.frame.Frame.{Frame}
use Rattle.h2frame.specs.FrameList.{Entry, Whole, Joined, IsUnfinished}
use Rattle.hpack_codec.specs.Table.{Table, empty_table}
use Rattle.streamstates.specs.declared.halves.FrameAction.{FrameAction}
use Rattle.streamstates.specs.Halves.{Event, Streams, verdict, half_of}
use Rattle.streamstates.specs.Halves.{Stands as HalvesStand}
use Rattle.reasons.specs.declared.Reason.TheVariants as reason
use Rattle.session.specs.declared.event.InEvent.{InEvent}
use Rattle.session.specs.declared.context.Position.{Position}
use Rattle.session.specs.declared.context.Position.TheVariants.{First, Between, Inside}
use Rattle.session.specs.declared.in_core.InStage.{InStage}
use Rattle.session.specs.declared.in_core.InStage.TheVariants.{Greeting, Reading, Dead}
use Rattle.session.specs.Prefaces.{preface, Departs}
use Rattle.session.specs.Streams.{after_frame, is_accepted}
use Rattle.session.specs.Frames.{fatal}
use Rattle.session.specs.HeaderBlocks.{PendingBlock}
use Rattle.session.specs.Events.{
  Passes,
  IsBegun,
  is_fatal,
  IsSettings,
  IsUnsettled,
  Close,
  Unfinished,
  Follows,
}

-- what is kept between two pieces
pub record Core : Type 0 where
  pub stage : InStage
  pub waiting : List ℕ
  pub streams : Streams
  pub kept : Option Table

-- a header block that isn't whole was begun on a stream that was begun, if its HEADERS are no error
abbrev pub IsSound : Position → Streams → Type 0
IsSound First streams = Unit {0}
IsSound Between streams = Unit {0}
IsSound (Inside block judged) streams =
    (block.whole ≡ false) × (is_accepted judged ≡ true → IsSome (half_of streams block.head.stream))

abbrev pub IsSoundNext : Option Position → Streams → Type 0
IsSoundNext (Some position) streams = IsSound position streams
IsSoundNext None streams = Unit {0}

abbrev pub IsSoundStage : InStage → Streams → Type 0
IsSoundStage (Reading position) streams = IsSound position streams
IsSoundStage (Greeting due) streams = Unit {0}
IsSoundStage Dead streams = Unit {0}

-- the entries begin with SETTINGS
abbrev pub IsSettled : List Entry → Type 0
IsSettled [] = ⊥
IsSettled (entry ∷ entries) = IsSettings entry

-- whole groups came, and these entries after them
pub record IsPassed (entries behind : List Entry) (given : List InEvent) (history : List Event)
    (kept : Option Table) : Type 0 where
  pub passes : Passes entries behind given (record { history = history; kept = kept })
  pub settled : IsSettled entries

-- the frames of a header block came after them, whose HEADERS had this verdict
pub record IsInside (block : PendingBlock) (judged : FrameAction) (history : List Event)
    (frames : List Frame) (streams : Streams) : Type 0 where
  pub begun : IsBegun history frames block
  pub as_judged : judged ≡ verdict history block.head
  pub keeps : HalvesStand (after_frame judged block.head history) streams

abbrev pub Holds : List Entry → List InEvent → PendingBlock → FrameAction → Streams
    → Option Table → Type 0
Holds entries given block judged streams kept =
    (history : List Event) × (frames : List Frame)
    × IsPassed entries (map Whole frames) given history kept
    × IsInside block judged history frames streams

-- the entries so far, with these events, lead to this position
abbrev pub Leads : List Entry → List InEvent → Position → Streams → Option Table → Type 0
Leads entries given First streams kept =
    (entries ≡ []) × (given ≡ []) × HalvesStand [] streams × (kept ≡ Some empty_table)
Leads entries given Between streams kept =
    (history : List Event) × IsPassed entries [] given history kept × HalvesStand history streams
Leads entries given (Inside block judged) streams kept =
    (block.whole ≡ false) × Holds entries given block judged streams kept

-- the entries and the rest, with these events, are the end of the connection
abbrev pub Stops : List Entry → List ℕ → List InEvent → Type 0
Stops entries rest given =
    (IsUnsettled entries × (given ≡ fatal reason.First))
    ⊎ ((close : Close) × (close ≢ Unfinished) × Follows entries rest close given)

-- the entries so far lead to this position, or to the end
abbrev pub LeadsOn : List Entry → List InEvent → Option Position → Streams → Option Table → Type 0
LeadsOn entries given (Some position) streams kept = Leads entries given position streams kept
LeadsOn entries given None streams kept = (rest : List ℕ) → Stops entries rest given

-- the position after these events
abbrev pub ends_at : Option InEvent → Bool
ends_at (Some event) = is_fatal event
ends_at None = false

abbrev pub position_behind : List InEvent → Option Position
position_behind given = if ends_at (slice_get given (length given - 1)) then None else Some Between

-- Whatever whole groups led here, a frame that begins a group leads on.
abbrev pub Begins : Streams → Option Table → List InEvent → Frame → Option Position → Streams
    → Option Table → List InEvent → Type 0
Begins streams kept old frame next new_streams new_kept new =
    (entries : List Entry) (before : List InEvent) (history : List Event)
    → Passes entries [] (before ++ old) (record { history = history; kept = kept })
    → HalvesStand history streams → IsSettled (entries ++ Whole frame ∷ [])
    → LeadsOn (entries ++ Whole frame ∷ []) (before ++ new) next new_streams new_kept

-- Whatever entries led to the frames of a header block, they lead on.
abbrev pub Collected : PendingBlock → FrameAction → Streams → Option Table → List InEvent
    → Option Position → Streams → Option Table → List InEvent → Type 0
Collected block judged streams kept old next new_streams new_kept new =
    (entries : List Entry) (before : List InEvent)
    → Holds entries (before ++ old) block judged streams kept
    → LeadsOn entries (before ++ new) next new_streams new_kept

-- Whatever entries and events led here, with these further entries they lead on.
abbrev pub Advances : Position → Streams → Option Table → List InEvent → List Entry
    → Option Position → Streams → Option Table → List InEvent → Type 0
Advances at streams kept old more next new_streams new_kept new =
    (entries : List Entry) (before : List InEvent) → Leads entries (before ++ old) at streams kept
    → LeadsOn (entries ++ more) (before ++ new) next new_streams new_kept

-- a fault of the frame reader ends the connection
abbrev pub IsEnd : Result Frame FrameFault → List InEvent → List InEvent → Type 0
IsEnd (Ok frame) old new = ⊥
IsEnd (Err fault) old new = (fault ≢ OutOfMemory) × (new ≡ old ++ fatal (reason.Frame fault))

-- the bytes after the preface lead to this position
abbrev pub ReadsTo : List ℕ → List InEvent → Position → List ℕ → Streams → Option Table → Type 0
ReadsTo text given position waiting streams kept =
    (entries : List Entry) × Joined text entries waiting × Leads entries given position streams kept

-- the bytes after the preface are the end of the connection
abbrev pub IsOver : List ℕ → List InEvent → Type 0
IsOver text given =
    (entries : List Entry) × (rest : List ℕ) × Joined text entries rest × Stops entries rest given

-- the bytes after the preface lead to this position, or are the end
abbrev pub ReadsNext : List ℕ → List InEvent → Option Position → List ℕ → Streams
    → Option Table → Type 0
ReadsNext text given (Some position) waiting streams kept =
    ReadsTo text given position waiting streams kept
ReadsNext text given None waiting streams kept = IsOver text given

-- the bytes after the preface lead to this stage, in which no whole frame is left
abbrev pub ReadsOn : List ℕ → List InEvent → InStage → List ℕ → Streams → Option Table → Type 0
ReadsOn text given (Reading position) waiting streams kept =
    ReadsTo text given position waiting streams kept × IsUnfinished waiting
ReadsOn text given Dead waiting streams kept = IsOver text given
ReadsOn text given (Greeting due) waiting streams kept = ⊥

-- The frames that wait are read: whatever bytes behind the preface led to them, with these events,
-- lead on to this stage.
pub record ReadsWaiting (at : Position) (waiting : List ℕ) (streams : Streams) (kept : Option Table)
    (before : List InEvent)
    (next : InStage) (left : List ℕ) (new_streams : Streams) (new_kept : Option Table)
    (after : List InEvent) : Type 0 where
  pub sound : IsSoundStage next new_streams
  pub reads : (text : List ℕ) (earlier : List InEvent)
      → ReadsTo text (earlier ++ before) at waiting streams kept
      → ReadsOn text (earlier ++ after) next left new_streams new_kept

-- The bytes so far, with these events, lead to this core.
abbrev pub AtStage : List ℕ → List InEvent → InStage → List ℕ → Streams → Option Table → Type 0
AtStage bytes given (Greeting due) waiting streams kept =
    (preface ≡ bytes ++ due) × (due ≢ []) × (given ≡ []) × (waiting ≡ []) × HalvesStand [] streams
    × (kept ≡ Some empty_table)
AtStage bytes given (Reading position) waiting streams kept =
    (text : List ℕ) × (bytes ≡ preface ++ text) × ReadsTo text given position waiting streams kept
    × IsUnfinished waiting
AtStage bytes given Dead waiting streams kept =
    (Departs preface bytes × (given ≡ fatal reason.Preface))
    ⊎ ((text : List ℕ) × (bytes ≡ preface ++ text) × IsOver text given)

pub record Reached (bytes : List ℕ) (given : List InEvent) (core : Core) : Type 0 where
  pub at : AtStage bytes given core.stage core.waiting core.streams core.kept

-- a core by its parts
abbrev pub core_of : InStage → List ℕ → Streams → Option Table → Core
core_of stage waiting streams kept =
    record { stage = stage; waiting = waiting; streams = streams; kept = kept }

-- A piece leads from one core to another, and adds to the events: whatever bytes and events led to
-- the first core, they lead to the second with the piece and the new events.
pub record Feeds (old : Core) (piece : List ℕ) (before : List InEvent) (new : Core)
    (after : List InEvent) : Type 0 where
  pub sound : IsSoundStage new.stage new.streams
  pub follows : (bytes : List ℕ) (earlier : List InEvent) → Reached bytes (earlier ++ before) old
      → Reached (bytes ++ piece) (earlier ++ after) new
