-- The events of a connection's bytes (RFC 9113, sections 3.4, 4.3, 5.4 and 6), by the whole list of
-- its frames. After the preface the list is cut into groups. Each group has its events, and these
-- end with the first that is fatal. The events are a relation between bytes and a list, and so are
-- its parts: no function computes them a second time. Laws say that the relation is no weaker than
-- a function (`one_list`, `goes_on`). The groups are of whole frames, not of what the core keeps
-- from frame to frame: a header block is one group, whatever it is cut into, and `Close` alone says
-- what follows the last whole group. Nothing follows a fatal event, so what it leaves isn't pinned
-- (`one_outcome`).
use Rattle.std.specs.Prelude.{
  ◌≡◌,
  ◌⊎◌,
  ℕ,
  Bool,
  true,
  false,
  List,
  [],
  ◌∷◌,
  ◌++◌,
  map,
  flat_map,
  Option,
  Some,
}
use Rattle.std.specs.List.{list_any}
use Rattle.h2frame.specs.declared.error_code.ErrorCode.{ErrorCode}
use Rattle.h2frame.specs.declared.fault.FrameFault.{FrameFault}
use Rattle.h2frame.specs.declared.frame.Frame.{Frame}
use Rattle.h2frame.specs.declared.kind.FrameKind.TheVariants.{Headers, Settings}
use Rattle.h2frame.specs.FrameList.{Entry, Whole, NoIncrement, Joined, IsUnfinished, IsFaulty}
use Rattle.hpack_codec.specs.Table.{Table, empty_table}
use Rattle.streamstates.specs.declared.halves.FrameAction.TheVariants.{ConnectionError}
use Rattle.streamstates.specs.Halves.{Event, verdict, is_connection_error}
use Rattle.reasons.specs.declared.Reason.{Reason}
use Rattle.reasons.specs.declared.Reason.TheVariants as reason
use Rattle.session.specs.declared.event.InEvent.{InEvent}
use Rattle.session.specs.declared.event.InEvent.TheVariants.{Fatal}
use Rattle.session.specs.declared.header_block.FragmentFault.{FragmentFault}
use Rattle.session.specs.declared.header_block.FragmentFault.TheVariants.{
  Interrupted,
  TooLong,
  OutOfMemory,
}
use Rattle.session.specs.Prefaces.{preface, Departs}
use Rattle.session.specs.Streams.{after_frame, refusal, credit_head, credit_verdict}
use Rattle.session.specs.Frames.{fatal, Gives}
use Rattle.session.specs.HeaderBlocks.{PendingBlock, Collects, Stands, fragment_reason}
use Rattle.session.specs.Blocks.{BlockGives}

-- what frames are judged by: those before them and the resets, and the table of header fields
pub record Situation : Type 0 where
  pub history : List Event
  pub kept : Option Table

-- before the first frame
abbrev pub start : Situation
start = record { history = []; kept = Some empty_table }

-- frames that have their events together: one frame outside a header block, a WINDOW_UPDATE without
-- an increment on a stream, or all frames of a header block
pub data Group : Type 0 where
  Single : Frame → Group
  Credit : ℕ → Group
  Block : List Frame → PendingBlock → Group

abbrev pub entries_of : Group → List Entry
entries_of (Single frame) = Whole frame ∷ []
entries_of (Credit id) = NoIncrement id ∷ []
entries_of (Block frames block) = map Whole frames

-- the frames of a header block, whole or not, whose HEADERS are no error of the connection
pub record IsBegun (history : List Event) (frames : List Frame)
    (block : PendingBlock) : Type 0 where
  pub collects : Collects frames block
  pub lawful : is_connection_error (verdict history block.head) ≡ false

-- The group has these events, and leads from one situation to the next.
abbrev pub GroupGives : Situation → Group → List InEvent → Situation → Type 0
GroupGives old (Single frame) given new =
    Gives old.history frame given new.history × (new.kept ≡ old.kept)
GroupGives old (Credit id) given new =
    (given ≡ refusal (credit_verdict old.history id) (credit_head id))
    × (new.history ≡ after_frame (credit_verdict old.history id) (credit_head id) old.history)
    × (new.kept ≡ old.kept)
GroupGives old (Block frames block) given new =
    let judged = verdict old.history block.head in
    IsBegun old.history frames block
    × (block.whole ≡ true)
    × BlockGives old.kept block.head judged block.block (after_frame judged block.head old.history)
    given new.history new.kept

abbrev pub is_fatal : InEvent → Bool
is_fatal (Fatal why) = true
is_fatal _ = false

-- the connection goes on after these events
abbrev pub IsCalm : List InEvent → Type 0
IsCalm given = list_any is_fatal given ≡ false

-- groups one after another, none of which is fatal
abbrev pub Runs : Situation → List Group → List InEvent → Situation → Type 0
Runs old [] given new = (given ≡ []) × (new ≡ old)
Runs old (group ∷ groups) given new =
    (first : List InEvent) × (others : List InEvent) × (next : Situation)
    × GroupGives old group first next × IsCalm first × Runs next groups others new
    × (given ≡ first ++ others)

-- the first frame is SETTINGS
abbrev pub IsSettings : Entry → Type 0
IsSettings (Whole frame) = frame.head.kind ≡ Settings
IsSettings (NoIncrement id) = ⊥

abbrev pub Opens : List Entry → Type 0
Opens [] = Unit {0}
Opens (entry ∷ entries) = IsSettings entry

-- The entries are whole groups with these events, and then others, which are no whole group.
pub record Passes (entries behind : List Entry) (given : List InEvent)
    (now : Situation) : Type 0 where
  pub groups : List Group
  pub parts : entries ≡ flat_map entries_of groups ++ behind
  pub opens : Opens entries
  pub runs : Runs start groups given now

-- What follows the groups: no whole one yet; a fault of the bytes; HEADERS that are an error of the
-- connection; an entry that doesn't go on with the header block of these frames; or a group that is
-- fatal.
pub data Close : Type 0 where
  Unfinished : Close
  Faulty : FrameFault → Close
  Refused : Frame → ErrorCode → Close
  Broken : List Frame → PendingBlock → Entry → FragmentFault → Close
  Ended : Group → Situation → Reason → Close

-- nothing, or a header block that isn't whole
abbrev pub IsPartial : List Event → List Entry → Type 0
IsPartial history behind =
    (behind ≡ [])
    ⊎ ((frames : List Frame) × (block : PendingBlock) × IsBegun history frames block
    × (block.whole ≡ false) × (behind ≡ map Whole frames))

-- why an entry doesn't go on with a header block
abbrev pub Breaks : Entry → PendingBlock → FragmentFault → Type 0
Breaks entry block OutOfMemory = ⊥
Breaks (Whole frame) block fault = Stands fault block frame
Breaks (NoIncrement id) block Interrupted = Unit {0}
Breaks (NoIncrement id) block TooLong = ⊥

-- the close follows the groups, in the entries and the rest of the bytes, and has these events
abbrev pub Closes : Close → Situation → List Entry → List ℕ → List InEvent → Type 0
Closes Unfinished now behind rest last =
    IsPartial now.history behind × IsUnfinished rest × (last ≡ [])
Closes (Faulty fault) now behind rest last =
    IsPartial now.history behind × IsFaulty fault rest × (last ≡ fatal (reason.Frame fault))
Closes (Refused frame error) now behind rest last =
    (behind ≡ Whole frame ∷ []) × (frame.head.kind ≡ Headers)
    × (verdict now.history frame.head ≡ ConnectionError error)
    × (last ≡ fatal (reason.Stream frame.head.kind error))
Closes (Broken frames block entry fault) now behind rest last =
    IsBegun now.history frames block × (block.whole ≡ false)
    × (behind ≡ map Whole frames ++ entry ∷ []) × Breaks entry block fault
    × (last ≡ fatal (fragment_reason fault))
Closes (Ended group next why) now behind rest last =
    (behind ≡ entries_of group) × GroupGives now group (fatal why) next × (last ≡ fatal why)

-- The entries of the bytes after the preface, as far as they count, and the rest of the bytes have
-- these events.
pub record Follows (entries : List Entry) (rest : List ℕ) (close : Close)
    (given : List InEvent) : Type 0 where
  pub behind : List Entry
  pub before : List InEvent
  pub last : List InEvent
  pub now : Situation
  pub passes : Passes entries behind before now
  pub closes : Closes close now behind rest last
  pub all : given ≡ before ++ last

-- the first frame isn't SETTINGS
abbrev pub IsUnsettled : List Entry → Type 0
IsUnsettled entries = (entry : Entry) × (entries ≡ entry ∷ []) × (IsSettings entry → ⊥)

-- The events of the bytes: none as long as the preface is unfinished; the end of the connection
-- where the bytes depart from the preface, or where the first frame isn't SETTINGS; or those of the
-- groups after the preface.
pub data Events : List ℕ → List InEvent → Type 0 where
  Greeted : {bytes : List ℕ} {given : List InEvent} (due : List ℕ) → preface ≡ bytes ++ due
      → given ≡ [] → Events bytes given
  Departed : {bytes : List ℕ} {given : List InEvent} → Departs preface bytes
      → given ≡ fatal reason.Preface → Events bytes given
  Unsettled : {bytes : List ℕ} {given : List InEvent} (text : List ℕ)
      (entries : List Entry) (rest : List ℕ)
      → bytes ≡ preface ++ text → Joined text entries rest → IsUnsettled entries
      → given ≡ fatal reason.First → Events bytes given
  Read : {bytes : List ℕ} {given : List InEvent} (text : List ℕ) (entries : List Entry)
      (rest : List ℕ) (close : Close)
      → bytes ≡ preface ++ text → Joined text entries rest → Follows entries rest close given
      → Events bytes given
