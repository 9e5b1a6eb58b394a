-- What a look at an open stream changes.
use Rattle.std.specs.Prelude.{
  ◌≡◌,
  ◌≢◌,
  ℕ,
  List,
  [],
  ◌∷◌,
  ◌++◌,
  map,
  set,
  get_or,
  Option,
  None,
  Some,
  IfNone,
  IfSome,
  Result,
  Ok,
  Err,
}
use Rattle.account.specs.declared.call.OutItem.{OutItem}
use Rattle.account.specs.declared.call.OutItem.TheVariants as item
use Rattle.callbox.specs.declared.sender.Sender.{Sender}
use Rattle.sendwindows.specs.Windows.{room}
use Rattle.h2frame.specs.declared.frame.Frame.{Frame}
use Rattle.lists.specs.declared.field.Field.{Field}
use Rattle.hpack_codec.specs.Codec.{Encoding, Writes}
use Rattle.outwriter.specs.States.{open_at}
use Rattle.outwriter.specs.declared.sending.Sending.{Sending}
use Rattle.outwriter.specs.declared.stream.OpenStream.{OpenStream}
use Rattle.outwriter.specs.declared.stream.SenderItem.{SenderItem}
use Rattle.outwriter.specs.declared.stream.SenderItem.TheVariants as polled
use Rattle.outwriter.specs.declared.stream.NextData.{NextData}
use Rattle.outwriter.specs.declared.stream.NextData.TheVariants as looked
use Rattle.outwriter.specs.Calls.{TellFronts}
use Rattle.outwriter.specs.Frames.{IsSound}
use Rattle.outwriter.specs.Cores.{calls, lanes, IsStuck, AreStuck, IsQuiet}
use Rattle.outwriter.specs.LeftCalls.{GaveLeft}
use Rattle.outwriter.specs.Parts.{Mark}
use Rattle.outwriter.specs.Polls.{block_item, GotNone}
use Rattle.outwriter.specs.CallState.{Serves, Heeds}
use Rattle.outwriter.specs.OpenStreams.{Shown}
use Rattle.outwriter.specs.RunState.{Progress, SameOwn}
use Rattle.outwriter.specs.Steps.{Step, Written}

-- ---- calls

abbrev pub with_item : OutItem → ℕ × List OutItem → ℕ × List OutItem
with_item one call = (call.0, call.1 ++ one ∷ [])

-- the sender at a place gave one more item
abbrev pub one_more : ℕ → OutItem → List (ℕ × List OutItem) → List (ℕ × List OutItem)
one_more place one all = set all place (with_item one (get_or all place (0, [])))

-- what is found at a place
abbrev pub Finds : ℕ → List (ℕ × List OutItem) → List (ℕ × List OutItem) → List (List OutItem)
    → Option Encoding → Option Encoding → SenderItem → Type 0
Finds place old new ahead from to polled.Nothing =
    GotNone old (one_more place item.Left old) new × (get_or ahead place [] ≡ []) × (to ≡ from)
Finds place old new ahead from to (polled.Message bytes) =
    (new ≡ one_more place (item.Message bytes) old) × (to ≡ from)
Finds place old new ahead from to (polled.Block bytes ends) =
    (fields : List Field) × (new ≡ one_more place (block_item ends fields) old)
    × Writes from fields bytes to

module _ {E : Type 0} where
  -- what is in hand comes first
  abbrev pub TakesHand : Option (List ℕ) → ℕ → List (ℕ × List OutItem) → List (ℕ × List OutItem)
      → List (List OutItem) → Option Encoding → Option Encoding → Result SenderItem E → Type 0
  TakesHand (Some bytes) place old new ahead from to result =
      (result ≡ Ok (polled.Message bytes)) × (new ≡ old) × (to ≡ from)
  TakesHand None place old new ahead from to (Ok found) = Finds place old new ahead from to found
  TakesHand None place old new ahead from to (Err e) =
      (one : OutItem) × (new ≡ one_more place one old)

  abbrev pub TakesAt : Shown → List (ℕ × List OutItem) → List (ℕ × List OutItem)
      → List (List OutItem) → Option Encoding → Option Encoding → Result SenderItem E → Type 0
  TakesAt None old new ahead from to result =
      (result ≡ Ok polled.Nothing) × (new ≡ old) × (to ≡ from)
  TakesAt (Some s) old new ahead from to result = TakesHand s.1 s.0 old new ahead from to result

-- what is ahead of the other senders doesn't change
abbrev pub SameElsewhere : ℕ → List (List OutItem) → List (List OutItem) → Type 0
SameElsewhere place old new = (k : ℕ) → k ≢ place → get_or new k [] ≡ get_or old k []

abbrev pub SameAhead : Shown → List (List OutItem) → List (List OutItem) → Type 0
SameAhead None old new = new ≡ old
SameAhead (Some s) old new = SameElsewhere s.0 old new

-- ---- a core

-- the frame that a look found
abbrev pub frame_in : NextData → Option Frame
frame_in (looked.Frame frame) = Some frame
frame_in looked.Nothing = None
frame_in looked.Empty = None

module _ {L In Out Shut : Type 0} where
  abbrev pub aheads : (Out → List OutItem) → List (ℕ × Sender L In Out Shut) → List (List OutItem)
  aheads ahead senders = map (λ call. ahead call.1.rx) senders

  -- all that is kept of the calls follows from the run
  abbrev pub Holds : (Out → List OutItem) → List Step → Sending L In Out Shut → Type 0
  Holds got run core =
      (marks : List (ℕ × Mark))
      × Serves run core.outbound (open_at core.outbound.states) (calls got core.senders.items) marks
      × Heeds run core.outbound (open_at core.outbound.states)

  -- a frame, if there is one, is the next step
  abbrev pub HoldsOn : (Out → List OutItem) → Option Frame → Sending L In Out Shut
      → Sending L In Out Shut → Type 0
  HoldsOn got (Some frame) old new =
      (run : List Step) → Holds got run old → Holds got (Written frame ∷ run) new
  HoldsOn got None old new = (run : List Step) → Holds got run old → Holds got run new

  -- what was written is still a front
  abbrev pub KeepsFronts : (Out → List OutItem) → Sending L In Out Shut
      → Sending L In Out Shut → Type 0
  KeepsFronts got old new =
      (run : List Step) → TellFronts run (calls got old.senders.items)
      → TellFronts run (calls got new.senders.items)

  -- where a sender gave that its call was left, one still did
  abbrev pub KeepsLeft : (Out → List OutItem) → Sending L In Out Shut
      → Sending L In Out Shut → Type 0
  KeepsLeft got old new =
      (id : ℕ) → GaveLeft id (calls got old.senders.items)
      → GaveLeft id (calls got new.senders.items)

  -- what was written is still a front of what the senders gave, each sender is an end of the same
  -- lane, and none forgets that its call was left
  abbrev pub Gives : {Name : Type 0} → (Out → List OutItem) → (Out → Name) → Sending L In Out Shut
      → Sending L In Out Shut → Type 0
  Gives got name old new =
      KeepsFronts got old new × (lanes name new.senders.items ≡ lanes name old.senders.items)
      × KeepsLeft got old new

  -- A frame is sound, may be written, and is the next step. Where there is none, what is due and
  -- what is owed doesn't change, and what is kept still follows from the run.
  abbrev pub Picks : (Out → List OutItem) → Option Frame → Sending L In Out Shut
      → Sending L In Out Shut → Type 0
  Picks got o old new =
      IfSome o IsSound × Progress o old.outbound new.outbound
      × IfNone o (SameOwn old.outbound new.outbound) × HoldsOn got o old new

  -- nothing can be written on this stream, if it is open
  abbrev pub StuckAt : (Out → List OutItem) → ℕ → Sending L In Out Shut → Type 0
  StuckAt ahead id core = (stream : OpenStream) → (open_at core.outbound.states) id ≡ Some stream
      → IsStuck (room core.outbound.states.windows id) stream.in_hand
      (get_or (aheads ahead core.senders.items) stream.place [])

  -- nothing can be written on this stream, nor on any on which nothing could be written before
  abbrev pub GetsStuck : (Out → List OutItem) → (Out → List OutItem) → ℕ → Sending L In Out Shut
      → Sending L In Out Shut → Type 0
  GetsStuck got ahead id old new =
      (run : List Step) → Holds got run old
      → StuckAt ahead id new × ((k : ℕ) → k ≢ id → StuckAt ahead k old → StuckAt ahead k new)

  -- the other streams don't change
  abbrev pub LeavesStuck : (Out → List OutItem) → (Out → List OutItem) → ℕ → Sending L In Out Shut
      → Sending L In Out Shut → Type 0
  LeavesStuck got ahead id old new =
      (run : List Step) → Holds got run old → (k : ℕ) → k ≢ id → StuckAt ahead k old
      → StuckAt ahead k new

  -- where a look at a stream found nothing, nothing can be written on it
  abbrev pub LooksAt : (Out → List OutItem) → (Out → List OutItem) → ℕ → NextData
      → Sending L In Out Shut → Sending L In Out Shut → Type 0
  LooksAt got ahead id (looked.Frame frame) old new = Unit {0}
  LooksAt got ahead id looked.Nothing old new = GetsStuck got ahead id old new
  LooksAt got ahead id looked.Empty old new = LeavesStuck got ahead id old new

  -- nothing can be written on any open stream
  abbrev pub AllStuck : (Out → List OutItem) → (Out → List OutItem) → Sending L In Out Shut
      → Sending L In Out Shut → Type 0
  AllStuck got ahead old new =
      (run : List Step) → Holds got run old
      → AreStuck new.outbound (open_at new.outbound.states) (aheads ahead new.senders.items)

  -- nothing can be written on any open stream, or the last frame was a GOAWAY with an error
  abbrev pub GetsQuiet : (Out → List OutItem) → (Out → List OutItem) → Sending L In Out Shut
      → Sending L In Out Shut → Type 0
  GetsQuiet got ahead old new = (run : List Step) → Holds got run old → IsQuiet ahead new
