-- What is next on a stream, and what is taken of it: the message in hand first, and then what its
-- sender has.
use Rattle.std.specs.Prelude.{
  ◌≡◌,
  ◌⊎◌,
  ℕ,
  nat_eq,
  Bool,
  false,
  true,
  List,
  Option,
  None,
  Ok,
  MatchOption,
}
use Rattle.std.specs.Map.{lookup, set_value}
use Rattle.account.specs.declared.call.OutItem.{OutItem}
use Rattle.callbox.specs.declared.sender.Sender.{Sender}
use Rattle.sendwindows.specs.Windows.{SharedWindow}
use Rattle.hpack_codec.specs.Codec.{Encoding}
use Rattle.outwriter.specs.declared.stream_state.Change.TheVariants as change
use Rattle.outwriter.specs.declared.stream_state.Over.TheVariants as end_by
use Rattle.outwriter.specs.declared.states.Stream.{Stream}
use Rattle.outwriter.specs.declared.stream.NextItem.{NextItem}
use Rattle.outwriter.specs.declared.stream.NextItem.TheVariants as found
use Rattle.outwriter.specs.declared.stream.SenderItem.{SenderItem}
use Rattle.outwriter.specs.declared.stream.SenderItem.TheVariants as polled
use Rattle.outwriter.specs.Cores.{calls}
use Rattle.outwriter.specs.Data.{BeginsMessage, BeginsOnStream, TakesFrames}
use Rattle.outwriter.specs.OpenStreams.{Removes, Shown, shown, shows}
use Rattle.outwriter.specs.RunState.{Ends, closing}
use Rattle.outwriter.specs.States.{IsAfter, IsShut, Moves, SameOwed, States, can_write, open_at}
use Rattle.outwriter.specs.StreamLooks.{SameAhead, TakesAt, aheads, one_more}

-- at most one item was got
abbrev pub GetsOne : List (ℕ × List OutItem) → List (ℕ × List OutItem) → Type 0
GetsOne old new = (new ≡ old) ⊎ ((place : ℕ) × (one : OutItem) × (new ≡ one_more place one old))

-- ---- what is written of what was found

-- a stream on which END_STREAM is written isn't open any more, and its window closes
abbrev pub EndsStream : Bool → Stream → Stream → Type 0
EndsStream true old new =
    (new.opened ≡ None) × IsAfter (change.End end_by.EndStream) old.state new.state
    × (new.balance ≡ None)
EndsStream false old new = new ≡ old

-- what is written: nothing; DATA of a message, whose rest is in hand then; or a header block
abbrev pub TakesUpStream : ℕ → Stream → Stream → SharedWindow → SharedWindow → SenderItem
    → NextItem → Type 0
TakesUpStream id old new from to polled.Nothing found.Nothing = (new ≡ old) × (to ≡ from)
TakesUpStream id old new from to (polled.Message bytes) (found.Message l) =
    (new.state ≡ old.state) × BeginsOnStream id old new from to bytes l
TakesUpStream id old new from to (polled.Block bytes ends_it) (found.Block block ends) =
    (block ≡ bytes) × (ends ≡ ends_it) × EndsStream ends_it old new × (to ≡ from)
TakesUpStream id old new from to _ _ = ⊥

-- a stream on which END_STREAM is written, among all streams: it is closed, and its end is noted
abbrev pub EndsOn : ℕ → Bool → States → States → Type 0
EndsOn id ends_it old new =
    Removes id ends_it (open_at old) (open_at new) × Ends old id ends_it new × SameOwed old new
    × Moves old (closing id ends_it) new

abbrev pub TakesUp : ℕ → States → States → SenderItem → NextItem → Type 0
TakesUp id old new polled.Nothing found.Nothing = new ≡ old
TakesUp id old new (polled.Message bytes) (found.Message l) = BeginsMessage id old new bytes l
TakesUp id old new (polled.Block bytes ends_it) (found.Block block ends) =
    (block ≡ bytes) × (ends ≡ ends_it) × EndsOn id ends_it old new
TakesUp id old new _ _ = ⊥

-- ---- what is next

module _ {L In Out Shut : Type 0} where
  -- this was found, in hand or at the sender, and what is ahead of the other senders didn't change
  abbrev pub Asks : (Out → List OutItem) → (Out → List OutItem) → Shown
      → List (ℕ × Sender L In Out Shut) → List (ℕ × Sender L In Out Shut) → Option Encoding
      → Option Encoding → SenderItem → Type 0
  Asks got ahead view old new from to one =
      TakesAt {E = Unit {0}} view (calls got old) (calls got new)
      (aheads ahead new) from to (Ok one)
      × SameAhead view (aheads ahead old) (aheads ahead new)

  -- no sender is asked
  abbrev pub AsksNone : List (ℕ × Sender L In Out Shut) → List (ℕ × Sender L In Out Shut)
      → Option Encoding → Option Encoding → Type 0
  AsksNone old new from to = (new ≡ old) × (to ≡ from)

  -- nothing is next on a stream that isn't open, or on which nothing may be written; else what was
  -- found is taken up
  abbrev pub NextOnStream : (Out → List OutItem) → (Out → List OutItem) → ℕ → Stream
      → Stream → SharedWindow → SharedWindow
      → List (ℕ × Sender L In Out Shut) → List (ℕ × Sender L In Out Shut) → Option Encoding
      → Option Encoding → NextItem → Type 0
  NextOnStream got ahead id old new from to senders left before after result =
      (((can_write old.state ≡ false) ⊎ (old.opened ≡ None)) × (result ≡ found.Nothing)
      × (new ≡ old) × (to ≡ from) × AsksNone senders left before after)
      ⊎ ((can_write old.state ≡ true) × (one : SenderItem)
      × Asks got ahead (shown old.opened) senders left before after one
      × TakesUpStream id old new from to one result)

  -- what is next on a stream among the entries, if it is there
  abbrev pub NextAtEntry : (Out → List OutItem) → (Out → List OutItem) → ℕ → List (ℕ × Stream)
      → List (ℕ × Stream) → SharedWindow → SharedWindow
      → List (ℕ × Sender L In Out Shut) → List (ℕ × Sender L In Out Shut) → Option Encoding
      → Option Encoding → NextItem → Type 0
  NextAtEntry got ahead id old new from to senders left before after result =
      MatchOption (lookup (nat_eq id) old)
      ((result ≡ found.Nothing) × (new ≡ old) × (to ≡ from) × AsksNone senders left before after)
      (λ was.
      (now : Stream) × (new ≡ set_value (nat_eq id) old now)
      × NextOnStream got ahead id was now from to senders left before after result)

  -- what is next on a stream among all streams
  abbrev pub TakesNext : (Out → List OutItem) → (Out → List OutItem) → ℕ → States → States
      → List (ℕ × Sender L In Out Shut) → List (ℕ × Sender L In Out Shut) → Option Encoding
      → Option Encoding → NextItem → Type 0
  TakesNext got ahead id old new senders left before after result =
      (IsShut old id × (result ≡ found.Nothing) × (new ≡ old) × AsksNone senders left before after)
      ⊎ (TakesFrames old id × (one : SenderItem)
      × Asks got ahead (shows (open_at old) id) senders left before after one
      × TakesUp id old new one result)
