-- How what a writer keeps of its calls follows from its run.
use Rattle.std.specs.Prelude.{
  ◌≡◌,
  ◌≢◌,
  ◌⊎◌,
  ◌||◌,
  ◌&&◌,
  not,
  ℕ,
  ◌==◌,
  ◌<◌,
  Bool,
  true,
  false,
  All,
  List,
  [],
  ◌∷◌,
  ◌++◌,
  map,
  length,
  get_or,
  Option,
  None,
  Some,
  is_some,
}
use Rattle.std.specs.List.{list_any}
use Rattle.account.specs.Accounts.{Begins}
use Rattle.account.specs.declared.call.OutItem.{OutItem}
use Rattle.h2frame.specs.declared.frame.Frame.{Frame}
use Rattle.h2frame.specs.declared.error_code.ErrorCode.{ErrorCode}
use Rattle.lists.specs.declared.field.Field.{Field}
use Rattle.outwriter.specs.declared.due.Due.{Due}
use Rattle.outwriter.specs.declared.due.Due.TheVariants as due_kind
use Rattle.outwriter.specs.declared.outbound.Outbound.{Outbound}
use Rattle.outwriter.specs.declared.stream.OpenStream.{OpenStream}
use Rattle.outwriter.specs.Calls.{
  is_fresh,
  is_served,
  is_called_off,
  is_dropped,
  IsRefused,
  IsOther,
  IsReturned,
}
use Rattle.outwriter.specs.Runs.{is_opened}
use Rattle.outwriter.specs.States.{
  States,
  SameEnds,
  SameOpen,
  SameOver,
  SetsEnd,
  is_heard,
  is_reset,
  knows,
  open_at,
  over_on,
}
use Rattle.outwriter.specs.Histories.{is_stream, was_reset}
use Rattle.outwriter.specs.OpenStreams.{OpenStreams}
use Rattle.outwriter.specs.RunState.{HasResets, MirrorsOf}
use Rattle.outwriter.specs.Parts.{Mark, Byte, marks_on, spelled, IsFrontOf}
use Rattle.outwriter.specs.Steps.{Step}
use Rattle.outwriter.specs.TableLimits.{limited_by}
use Rattle.outwriter.specs.ToldByNow.{SpellsOf, SameStanding, TellsMore, TellsReset, block_marks}

-- ---- one stream

abbrev pub bytes_marks : Option (List ℕ) → List Mark
bytes_marks None = []
bytes_marks (Some bytes) = map Byte bytes

-- the call at an open stream's place is the stream's; what was written of it, with what is in hand,
-- is all that its items spell
abbrev pub IsExact : ℕ → OpenStream → List (ℕ × List OutItem) → List Mark → Type 0
IsExact id stream calls told = (stream.place < length calls)
    × ((d : ℕ × List OutItem) → ((get_or calls stream.place d).0 ≡ id)
    × (told ++ bytes_marks stream.in_hand ≡ spelled (get_or calls stream.place d).1))

-- what was written on a stream that isn't open begins what the items spell, and then a reset only
-- where one was written
abbrev pub IsEnded : Option Bool → List Mark → List OutItem → Type 0
IsEnded over told items =
    IsFrontOf told (spelled items) × (over ≢ Some true → Begins told (spelled items))

-- nothing was written on a stream of no call before it was over, and then no more than a reset, or
-- a refusal that was asked for
abbrev pub IsUncalled : ℕ → List Step → Option Bool → List Mark → Type 0
IsUncalled id run over told = (over ≡ None → told ≡ []) × IsOther id run told

-- a stream was called off or dropped
abbrev pub has_reason : ℕ → List Step → Bool
has_reason id run = is_called_off id run || is_dropped id run

-- what may be due on a stream: it was refused or reset
abbrev pub MayBeDue : List Step → Outbound → OpenStreams → Due → Type 0
MayBeDue run o streams (due_kind.Refuse id fields) =
    (is_fresh id run ≡ false) × (is_served id run ≡ false) × (streams id ≡ None)
    × (is_heard o.states id ≡ true) × IsRefused id fields run × (has_reason id run ≡ true)
MayBeDue run o streams (due_kind.Reset id code) =
    (streams id ≡ None) × (is_heard o.states id ≡ true)
MayBeDue run o streams _ = Unit {0}

-- ---- how streams end

-- the end of a stream that is due: a Refuse of one that was reset isn't written any more
abbrev pub is_due_of : States → ℕ → Due → Bool
is_due_of owed id (due_kind.Reset stream code) = id == stream
is_due_of owed id (due_kind.Refuse stream fields) = (id == stream) && not (is_reset owed stream)
is_due_of owed id _ = false

-- a stream's end was written, or is due
abbrev pub IsEnding : ℕ → Outbound → Type 0
IsEnding id o =
    (is_some (over_on o.states id) ≡ true) ⊎ (list_any (is_due_of o.states id) o.due.items ≡ true)

-- the end of each stream that was called off was written or is due, unless the stream was dropped
abbrev pub HeedsEnds : List Step → Outbound → Type 0
HeedsEnds run o =
    (id : ℕ) → is_stream id ≡ true → is_called_off id run ≡ true
    → IsEnding id o ⊎ (is_dropped id run ≡ true)

-- an open stream wasn't reset
abbrev pub HeedsOpen : List Step → OpenStreams → Type 0
HeedsOpen run streams = (id : ℕ) → is_some (streams id) ≡ true → was_reset id run ≡ false

-- a stream that was reset is heard of
abbrev pub HeedsHeard : List Step → Outbound → Type 0
HeedsHeard run o =
    (id : ℕ) → is_stream id ≡ true → was_reset id run ≡ true → is_heard o.states id ≡ true

-- the Resets and Refuses of a run are heeded
abbrev pub Heeds : List Step → Outbound → OpenStreams → Type 0
Heeds run o streams =
    HeedsEnds run o × HasResets run o.states × HeedsOpen run streams × HeedsHeard run o

-- the ends that were due here were written before
abbrev pub AreOver : Outbound → List Due → Type 0
AreOver o dues =
    (id : ℕ) → is_stream id ≡ true → list_any (is_due_of o.states id) dues ≡ true
    → is_some (over_on o.states id) ≡ true

-- ---- all of them

-- The streams of a writer, whose frames have these marks: those that are open, and the calls in the
-- order of their Opens.
pub record Serves (run : List Step) (o : Outbound) (streams : OpenStreams)
    (calls : List (ℕ × List OutItem)) (marks : List (ℕ × Mark)) : Type 0 where
  pub spells : SpellsOf run o marks
  -- all of an open stream's items is written but what is in hand
  pub exact : (id : ℕ) (stream : OpenStream) → streams id ≡ Some stream
      → IsExact id stream calls (marks_on id marks)
  pub not_over : (id : ℕ) (stream : OpenStream) → streams id ≡ Some stream
      → over_on o.states id ≡ None
  pub known : (id : ℕ) (stream : OpenStream) → streams id ≡ Some stream → knows o.states id ≡ true
  -- a front is written of a call whose stream isn't open
  pub ended : (k : ℕ) (d : ℕ × List OutItem) → k < length calls
      → streams (get_or calls k d).0 ≡ None → is_served (get_or calls k d).0 run ≡ true
      → IsEnded (over_on o.states (get_or calls k d).0) (marks_on (get_or calls k d).0 marks)
      (get_or calls k d).1
  -- a front is written of a call whose sender was given back
  pub returned : (id : ℕ) (items : List OutItem) → IsReturned id items run → is_served id run ≡ true
      → (streams id ≡ None) × IsEnded (over_on o.states id) (marks_on id marks) items
  pub stale : (id : ℕ) (items : List OutItem) → IsReturned id items run → is_fresh id run ≡ false
  -- a stream that two calls have is no served one
  pub apart : (i j : ℕ) (d : ℕ × List OutItem) → i < length calls → j < length calls → i ≢ j
      → (get_or calls i d).0 ≡ (get_or calls j d).0
      → is_served (get_or calls i d).0 run ≡ false
  pub opened : (k : ℕ) (d : ℕ × List OutItem) → k < length calls
      → is_fresh (get_or calls k d).0 run ≡ false
  pub due : All (MayBeDue run o streams) o.due.items
  -- nothing is written on a stream of which nothing was heard
  pub unknown : (id : ℕ) → is_heard o.states id ≡ false → marks_on id marks ≡ []
  -- at most a reset is written on a stream that was neither opened nor refused
  pub other : (id : ℕ) → is_fresh id run ≡ true
      → IsEnded (over_on o.states id) (marks_on id marks) []
  -- a call's stream is open until its end was written or a Reset of it was taken
  pub stays : (id : ℕ) → is_served id run ≡ true → is_stream id ≡ true → streams id ≡ None
      → (is_some (over_on o.states id) ≡ true) ⊎ (was_reset id run ≡ true)
  pub early : (id : ℕ) → is_heard o.states id ≡ true → is_fresh id run ≡ true
      → was_reset id run ≡ true
  -- a stream that was heard of is open until its end was written, or it was called off or dropped
  pub reasons : (id : ℕ) → is_stream id ≡ true → streams id ≡ None → is_heard o.states id ≡ true
      → (is_some (over_on o.states id) ≡ true) ⊎ (has_reason id run ≡ true)
  -- a stream is a call's where an Open of it was taken
  pub brought : (id : ℕ) → knows o.states id ≡ (is_stream id && is_opened id run)
  pub uncalled : (id : ℕ) → knows o.states id ≡ false
      → IsUncalled id run (over_on o.states id) (marks_on id marks)

-- What is kept of the connection, of its calls, which gave these items, and of the ends that
-- controls asked for follows from the run.
pub record Kept (run : List Step) (o : Outbound) (calls : List (ℕ × List OutItem)) : Type 0 where
  pub mirrors : MirrorsOf run o
  pub marks : List (ℕ × Mark)
  pub serves : Serves run o (open_at o.states) calls marks
  pub heeds : Heeds run o (open_at o.states)

-- ---- what an Outbound's calls change of it

-- the refusal of a stream
abbrev pub refuses : ℕ → Due → Bool
refuses id (due_kind.Refuse stream fields) = id == stream
refuses id _ = false

-- these frames were added to what was due, these streams are a call's now, and the encoder got
-- these limits of the header table; the streams that are over, those that were reset, the first
-- frame and the header block didn't change
pub record Takes (more : List Due) (is_new : ℕ → Bool) (limits : List ℕ)
    (old new : Outbound) : Type 0 where
  pub due : new.due.items ≡ old.due.items ++ more
  pub knows : (id : ℕ) → knows new.states id ≡ (is_new id || knows old.states id)
  pub heard : (id : ℕ)
      → is_heard new.states id
      ≡ ((is_new id || list_any (refuses id) more) || is_heard old.states id)
  pub resets : (id : ℕ) → is_reset new.states id ≡ is_reset old.states id
  pub over : SameOver old.states new.states
  pub same_open : ((id : ℕ) → is_new id ≡ false) → SameOpen old.states new.states
  pub begun : new.begun ≡ old.begun
  pub block : new.block ≡ old.block
  pub encoder : new.encoder ≡ limited_by old.encoder limits

abbrev pub none_is_new : ℕ → Bool
none_is_new id = false

-- a frame has no mark of a stream, and no stream is over by it
abbrev pub IsPlain : Frame → Outbound → Outbound → Type 0
IsPlain frame old new =
    TellsMore frame [] old new × SameEnds old.states new.states
    × ((front : List Due) × (old.due.items ≡ front ++ new.due.items) × AreOver old front)

-- a frame resets a stream for which that was due
abbrev pub IsReset : Frame → Outbound → Outbound → Type 0
IsReset frame old new =
    (id : ℕ) × (code : ErrorCode) × (front : List Due)
    × (old.due.items ≡ front ++ due_kind.Reset id code ∷ new.due.items)
    × TellsReset id frame old new × (over_on old.states id ≡ None)
    × SetsEnd old.states id true new.states × AreOver old front

-- a frame begins the refusal of a stream for which that was due
abbrev pub IsRefusal : Frame → Outbound → Outbound → Type 0
IsRefusal frame old new =
    (id : ℕ) × (fields : List Field) × (front : List Due)
    × (old.due.items ≡ front ++ due_kind.Refuse id fields ∷ new.due.items)
    × TellsMore frame (block_marks id fields true) old new × (over_on old.states id ≡ None)
    × SetsEnd old.states id false new.states × AreOver old front

-- a frame that is none of an open stream
abbrev pub IsOwn : Frame → Outbound → Outbound → Type 0
IsOwn frame old new =
    SameStanding old new
    × (IsPlain frame old new ⊎ (IsReset frame old new ⊎ IsRefusal frame old new))
    × SameOpen old.states new.states

-- no frame comes: at most, what was due is dropped
pub record Rests (old new : Outbound) : Type 0 where
  pub due : (front : List Due) × (old.due.items ≡ front ++ new.due.items) × AreOver old front
  pub standing : SameStanding old new
  pub over : SameEnds old.states new.states
  pub same_open : SameOpen old.states new.states
  pub begun : new.begun ≡ old.begun
  pub block : new.block ≡ old.block
  pub encoder : new.encoder ≡ old.encoder

abbrev pub OwnOrRests : Option Frame → Outbound → Outbound → Type 0
OwnOrRests (Some frame) old new = IsOwn frame old new
OwnOrRests None old new = Rests old new
