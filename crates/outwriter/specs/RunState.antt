-- How what a writer keeps follows from its run.
use Rattle.std.specs.Prelude.{
  ◌≡◌,
  ◌≢◌,
  ◌⊎◌,
  ◌&&◌,
  All,
  ℕ,
  ◌==◌,
  Bool,
  true,
  false,
  List,
  [],
  ◌∷◌,
  ◌++◌,
  flat_map,
  Option,
  None,
  Some,
  IfSome,
  MatchOption,
  is_some,
  nat_lt,
  if◌then◌else◌,
}
use Rattle.std.specs.List.{list_any}
use Rattle.sendwindows.specs.WindowHistory.{Follows, Closing, Spending, CanCredit, CanResize}
use Rattle.sendwindows.specs.WindowHistory.{Step as WindowStep}
use Rattle.sendwindows.specs.Windows.{Windows}
use Rattle.h2frame.specs.declared.error_code.ErrorCode.{ErrorCode}
use Rattle.h2frame.specs.declared.frame.Frame.{Frame}
use Rattle.outwriter.specs.declared.blocks.HeaderBlock.{HeaderBlock}
use Rattle.outwriter.specs.Blocks.{frame_of, rest_of}
use Rattle.outwriter.specs.declared.control.WriterOrder.{WriterOrder}
use Rattle.outwriter.specs.declared.control.WriterOrder.TheVariants as control
use Rattle.outwriter.specs.declared.stream.OpenStream.{OpenStream}
use Rattle.outwriter.specs.declared.control.OutFault.{OutFault}
use Rattle.outwriter.specs.declared.control.OutFault.TheVariants.{OutOfMemory, PeerWindow}
use Rattle.outwriter.specs.declared.due.Due.{Due}
use Rattle.outwriter.specs.declared.due.Due.TheVariants as due_kind
use Rattle.outwriter.specs.declared.outbound.Outbound.{Outbound}
use Rattle.outwriter.specs.States.{
  States,
  SetsEnd,
  StandAs,
  over_on,
  owed_on,
  pays,
  knows,
  is_reset,
}
use Rattle.outwriter.specs.Frames.{
  is_last,
  resets,
  settings_ack,
  ping_ack,
  ping_frame,
  goaway_frame,
}
use Rattle.outwriter.specs.Histories.{
  HasHistory,
  HasWindow,
  Overflows,
  window_sizes,
  is_over,
  is_stream,
  was_reset,
}
use Rattle.outwriter.specs.Runs.{
  has_begun,
  IsAsked,
  due,
  told,
  unfinished,
  owed,
  may_owe,
  is_opened,
  MayWrite,
}
use Rattle.outwriter.specs.Steps.{Step, Written, frames_of}

-- the windows follow from the history of the run's
abbrev pub HasWindows : List Step → Windows → Type 0
HasWindows run windows =
    (history : List WindowStep) × HasHistory run history × Follows history windows

-- the streams on which END_STREAM or RST_STREAM was written are noted; RST_STREAM was written only
-- where it is noted
abbrev pub HasOver : List Step → States → Type 0
HasOver run states = (id : ℕ) → (is_some (over_on states id) ≡ is_over id run)
    × (over_on states id ≢ Some true → list_any (resets id) (frames_of run) ≡ false)

abbrev pub duties_of : Due → List Frame
duties_of due_kind.SettingsAck = settings_ack ∷ []
duties_of (due_kind.PingAck bytes) = ping_ack bytes ∷ []
duties_of (due_kind.Ping bytes) = ping_frame bytes ∷ []
duties_of (due_kind.Refuse id fields) = []
duties_of (due_kind.Reset id code) = []
duties_of (due_kind.Goaway last reason) = goaway_frame last reason ∷ []

abbrev pub resets_of : Due → List (ℕ × ErrorCode)
resets_of (due_kind.Reset id code) = (id, code) ∷ []
resets_of _ = []

-- the resets that wait were asked for
abbrev pub AreAsked : List Step → List Due → Type 0
AreAsked run waiting = All (λ reset. IsAsked reset.0 reset.1 run) (flat_map resets_of waiting)

-- what is due is what was written and what waits, in this order
abbrev pub HasDue : List Step → List Due → Type 0
HasDue run waiting = (due run ≡ told run ++ flat_map duties_of waiting) × AreAsked run waiting

-- the header block that isn't whole is the one of which the rest is kept
abbrev pub HasBlock : List Step → Option HeaderBlock → Type 0
HasBlock run None = unfinished run ≡ None
HasBlock run (Some block) =
    (block.begun ≡ true) × IfSome (unfinished run) (λ written. written.stream ≡ block.id)
    × (unfinished run ≢ None)

-- its stream wasn't reset
abbrev pub HasHead : List Frame → Option HeaderBlock → Type 0
HasHead frames None = Unit {0}
HasHead frames (Some block) = list_any (resets block.id) frames ≡ false

-- what is owed follows from the run, and on which streams it may be
abbrev pub HasOwed : List Step → States → Type 0
HasOwed run kept =
    (id : ℕ)
    → (owed_on kept id ≡ owed id run) × (pays kept id ≡ may_owe id run)
    × (knows kept id ≡ true → is_opened id run ≡ true)

-- a stream whose RST_STREAM was written was reset
abbrev pub HasSilence : States → Type 0
HasSilence states = (id : ℕ) → over_on states id ≡ Some true → is_reset states id ≡ true

-- the streams that count as reset are those of which a Reset was taken
abbrev pub HasResets : List Step → States → Type 0
HasResets run states = (id : ℕ) → is_stream id ≡ true → is_reset states id ≡ was_reset id run

-- the state of each stream follows from the run; stream 0 has no end
pub record HasStates (run : List Step) (states : States) : Type 0 where
  pub over : HasOver run states
  pub silent : HasSilence states
  pub resets : HasResets run states
  pub owes : HasOwed run states
  pub no_stream_0 : over_on states 0 ≡ None

-- ---- what a frame changes

-- what the end of a stream closes
abbrev pub closing : ℕ → Bool → List WindowStep
closing id ends_it = if ends_it then Closing id ∷ [] else []

-- bytes that are spent on a stream, if there are any
abbrev pub spent : ℕ → ℕ → List WindowStep
spent id n = if nat_lt 0 n then Spending id n ∷ [] else []

-- the rest of a block is kept, if there is one
abbrev pub Keeps : ℕ → Bool → Option HeaderBlock → Type 0
Keeps id true left = left ≡ None
Keeps id false left = MatchOption left ⊥ (λ block. (block.begun ≡ true) × (block.id ≡ id))

-- the end of a stream is written, if the frame is one
abbrev pub Ends : States → ℕ → Bool → States → Type 0
Ends old id true new = SetsEnd old id false new
Ends old id false new = StandAs old new

-- ---- all of it

pub record Mirrors (run : List Step) (begun gone : Bool) (windows : Windows) (waiting : List Due)
    (block : Option HeaderBlock) (states : States) : Type 0 where
  pub begins : has_begun (frames_of run) ≡ begun
  pub goes : list_any is_last (frames_of run) ≡ gone
  pub windows_follow : HasWindows run windows
  pub answers : HasDue run waiting
  pub goes_on : HasBlock run block
  pub not_reset : HasHead (frames_of run) block
  pub stand : HasStates run states

abbrev pub MirrorsOf : List Step → Outbound → Type 0
MirrorsOf run o = Mirrors run o.begun o.gone o.states.windows o.due.items o.block o.states

-- whatever run led to the state before, with this step it leads to the state after
abbrev pub MirrorsOn : Step → Outbound → Outbound → Type 0
MirrorsOn step old new = (run : List Step) → MirrorsOf run old → MirrorsOf (step ∷ run) new

-- the frame may be written, and leads from one state to the next
abbrev pub Writes : Frame → Outbound → Outbound → Type 0
Writes frame old new =
    (run : List Step) → MirrorsOf run old → MayWrite run frame × MirrorsOf (Written frame ∷ run) new

-- SETTINGS were written, no GOAWAY with an error was, and no header block is unfinished
pub record IsBetween (o : Outbound) : Type 0 where
  pub begun : o.begun ≡ true
  pub going : o.gone ≡ false
  pub no_block : o.block ≡ None

-- the step leads on for a frame that was the first of those that are due, and isn't due any more
abbrev pub MirrorsWith : List Step → Due → Outbound → Type 0
MirrorsWith run one o =
    Mirrors run o.begun o.gone o.states.windows (one ∷ o.due.items) o.block o.states

abbrev pub WritesDue : Due → Frame → Outbound → Outbound → Type 0
WritesDue one frame old new =
    (run : List Step) → MirrorsWith run one old
    → MayWrite run frame × MirrorsOf (Written frame ∷ run) new

-- the frame that was due is written; or it isn't written any more, and nothing else changes
abbrev pub WritesOrSkips : Due → Option Frame → Outbound → Outbound → Type 0
WritesOrSkips one (Some frame) old new = WritesDue one frame old new
WritesOrSkips one None old new = (duties_of one ≡ []) × (new ≡ old)

-- the first frame of a header block, whose rest is kept
abbrev pub BeginsBlock : ℕ → Bool → List ℕ → Frame → Outbound → Outbound → Type 0
BeginsBlock id ends_it bytes frame old new =
    let whole : HeaderBlock = record { id = id; ends = ends_it; begun = false; rest = bytes } in
    (frame ≡ frame_of whole) × (new ≡ record old { block = rest_of whole })

-- a frame, if there is one; else nothing changed
abbrev pub WritesIf : Option Frame → Outbound → Outbound → Type 0
WritesIf (Some frame) old new = Writes frame old new
WritesIf None old new = new ≡ old

-- a frame is written, if there is one; else what is kept still follows from its runs
abbrev pub Stays : Outbound → Outbound → Type 0
Stays old new = (run : List Step) → MirrorsOf run old → MirrorsOf run new

abbrev pub Progress : Option Frame → Outbound → Outbound → Type 0
Progress (Some frame) old new = Writes frame old new
Progress None old new = Stays old new × IsBetween new

abbrev pub Progresses : Option Frame → Outbound → Outbound → Type 0
Progresses (Some frame) old new = Writes frame old new
Progresses None old new = Stays old new

-- ---- where no frame comes

-- no header block is unfinished, nothing is due and no credit is owed; or nothing is written any
-- more
abbrev pub IsSpent : Outbound → Type 0
IsSpent o =
    (o.gone ≡ true) ⊎ ((o.block ≡ None) × (o.due.items ≡ []) × ((id : ℕ) → owed_on o.states id ≡ 0))

-- all that controls obliged to was written, each header block is whole and no credit is owed; or
-- nothing is written any more
abbrev pub IsAnswered : List Step → Type 0
IsAnswered run =
    (list_any is_last (frames_of run) ≡ true)
    ⊎ ((told run ≡ due run) × (unfinished run ≡ None) × ((id : ℕ) → owed id run ≡ 0))

-- what is due and what is owed doesn't change
abbrev pub SameOwn : Outbound → Outbound → Type 0
SameOwn old new =
    (new.due ≡ old.due) × ((id : ℕ) → owed_on new.states id ≡ owed_on old.states id)
    × (new.block ≡ old.block)

-- only what is kept of the open streams changes
abbrev pub SameButOpen : Outbound → Outbound → Type 0
SameButOpen old new = new ≡ record old { states = record old.states { opened = new.states.opened } }

-- an item is in hand, and the windows let none of it through
abbrev pub is_held : Option OpenStream → ℕ → Bool
is_held None room_now = false
is_held (Some stream) room_now = is_some stream.in_hand && (room_now == 0)

module _ {S : Type 0} where
  -- a fault of the peer comes from its credit, on that stream, or at 0 from its SETTINGS
  abbrev pub Concerns : OutFault S → WriterOrder S → Type 0
  Concerns (OutOfMemory back) taken = Unit {0}
  Concerns (PeerWindow id) (control.Window stream n) = id ≡ stream
  Concerns (PeerWindow id) (control.Settings settings) = id ≡ 0
  Concerns (PeerWindow id) _ = ⊥

  -- the control would make a window larger than 2^31 - 1 bytes
  abbrev pub IsTooMuch : WriterOrder S → List WindowStep → Type 0
  IsTooMuch (control.Window stream n) history = Overflows history stream n
  IsTooMuch (control.Settings settings) history = ¬ All (CanResize history) (window_sizes settings)
  IsTooMuch _ history = ⊥

  -- why a control is a fault of the peer, by what the run did to the windows
  abbrev pub Blames : OutFault S → WriterOrder S → List Step → Type 0
  Blames (OutOfMemory back) taken run = Unit {0}
  Blames (PeerWindow id) taken run =
      (history : List WindowStep) × HasHistory run history × IsTooMuch taken history

  -- why a control is no fault of the peer
  abbrev pub HasRoom : WriterOrder S → List Step → Type 0
  HasRoom (control.Window stream n) run =
      (history : List WindowStep) × HasHistory run history
      × (HasWindow history stream → CanCredit history stream n)
  HasRoom (control.Settings settings) run =
      (history : List WindowStep) × HasHistory run history
      × All (CanResize history) (window_sizes settings)
  HasRoom _ run = Unit {0}
