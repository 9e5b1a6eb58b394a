-- DATA of a message (RFC 9113, section 6.1), and of the message in hand of a stream.
use Rattle.std.specs.Prelude.{
  ◌≡◌,
  ◌⊎◌,
  ℕ,
  ℤ,
  pos,
  ◌+ℤ◌,
  ◌-ℤ◌,
  ◌-◌,
  Option,
  ◌<◌,
  ◌≤◌,
  ◌^◌,
  false,
  true,
  List,
  [],
  ◌++◌,
  length,
  None,
  Some,
}
use Rattle.sendwindows.specs.Windows.{SharedWindow, Windows, lesser, room}
use Rattle.sendwindows.specs.WindowHistory.{Follows, room_after}
use Rattle.sendwindows.specs.WindowHistory.{Step as WindowStep}
use Rattle.outwriter.specs.declared.states.Stream.{Stream}
use Rattle.outwriter.specs.declared.stream.OpenStream.{OpenStream}
use Rattle.outwriter.specs.declared.stream.MessageInHand.{MessageInHand}
use Rattle.outwriter.specs.declared.stream.MessageInHand.TheVariants as hand
use Rattle.outwriter.specs.declared.stream.NextData.{NextData}
use Rattle.outwriter.specs.declared.stream.NextData.TheVariants as looked
use Rattle.outwriter.specs.Frames.{data_frame}
use Rattle.outwriter.specs.OpenStreams.{HandIs, kept, shown, with_hand}
use Rattle.outwriter.specs.RunState.{spent}
use Rattle.outwriter.specs.States.{
  StandButWindows,
  States,
  can_write,
  is_reset,
  open_at,
  over_on,
  room_in,
}

-- DATA of a front of a message, for which both windows have room, and which is taken out of them;
-- or nothing, where they have no room; or the message has no bytes. The rest of the message stays.
abbrev pub TakesData : ℕ → Windows → Windows → List ℕ → List ℕ → NextData → Type 0
TakesData id old new message rest (looked.Frame frame) =
    (front : List ℕ) × (message ≡ front ++ rest) × (frame ≡ data_frame id front)
    × (0 < length front) × (length front ≤ 16384)
    × (0 < id → (history : List WindowStep) → Follows history old
    → length front ≤ room_after history id)
    × ((history : List WindowStep) → Follows history old
    → Follows (spent id (length front) ++ history) new)
TakesData id old new message rest looked.Nothing =
    (rest ≡ message) × (new ≡ old) × (0 < length message) × (room old id ≡ 0)
TakesData id old new message rest looked.Empty = (rest ≡ message) × (new ≡ old) × (message ≡ [])

-- bytes are taken out of both windows, which have room for them; none are, if the stream's isn't
-- open
abbrev pub Spends : SharedWindow → SharedWindow → Option ℤ → Option ℤ → ℕ → Type 0
Spends from to None new n = (n ≡ 0) × (to ≡ from) × (new ≡ None)
Spends from to (Some b) new n =
    (n ≤ lesser from.connection (pos from.initial +ℤ b))
    × (to ≡ record from { connection = from.connection - n }) × (new ≡ Some (b -ℤ pos n))

-- DATA of a front of a message, by what all windows share and the balance of the stream's
abbrev pub CutsData : ℕ → SharedWindow → SharedWindow → Option ℤ → Option ℤ → List ℕ → List ℕ
    → NextData → Type 0
CutsData id from to old new message rest (looked.Frame frame) =
    (front : List ℕ) × (message ≡ front ++ rest) × (frame ≡ data_frame id front)
    × (0 < length front) × (length front ≤ 16384)
    × Spends from to old new (length front)
CutsData id from to old new message rest looked.Nothing =
    (rest ≡ message) × (to ≡ from) × (new ≡ old) × (0 < length message) × (room_in from old ≡ 0)
CutsData id from to old new message rest looked.Empty =
    (rest ≡ message) × (to ≡ from) × (new ≡ old) × (message ≡ [])

-- what a look at the message in hand of an open stream finds: none; or a message, whose rest is
-- kept
abbrev pub LooksAtOpen : ℕ → OpenStream → OpenStream → SharedWindow → SharedWindow → Option ℤ
    → Option ℤ → MessageInHand → Type 0
LooksAtOpen id old new from to was now hand.Shut = ⊥
LooksAtOpen id old new from to was now (hand.Empty place) =
    (new ≡ old) × (to ≡ from) × (now ≡ was) × (old.place ≡ place) × (old.in_hand ≡ None)
LooksAtOpen id old new from to was now (hand.Message found) =
    (message : List ℕ) × (rest : List ℕ) × (old.in_hand ≡ Some message)
    × (shown (Some new) ≡ Some (old.place, kept rest))
    × CutsData id from to was now message rest found

-- what a look at the message in hand of a stream finds
abbrev pub LooksAtStream : ℕ → Stream → Stream → SharedWindow → SharedWindow
    → MessageInHand → Type 0
LooksAtStream id old new from to hand.Shut =
    (new ≡ old) × (to ≡ from) × ((can_write old.state ≡ false) ⊎ (old.opened ≡ None))
LooksAtStream id old new from to (hand.Empty place) =
    (new ≡ old) × (to ≡ from) × (can_write old.state ≡ true)
    × (shown old.opened ≡ Some (place, None))
LooksAtStream id old new from to (hand.Message found) = (can_write old.state ≡ true)
    × (place : ℕ) × (message : List ℕ) × (rest : List ℕ)
    × (shown old.opened ≡ Some (place, Some message)) × (shown new.opened ≡ Some (place, kept rest))
    × CutsData id from to old.balance new.balance message rest found

-- what is found of a message that begins or goes on, whose rest is in hand then, if the stream is
-- open
abbrev pub BeginsOnStream : ℕ → Stream → Stream → SharedWindow → SharedWindow → List ℕ
    → NextData → Type 0
BeginsOnStream id old new from to message found =
    (rest : List ℕ) × (shown new.opened ≡ with_hand (kept rest) (shown old.opened))
    × CutsData id from to old.balance new.balance message rest found

-- frames may be written on a stream
pub record TakesFrames (states : States) (id : ℕ) : Type 0 where
  pub stream : 0 < id
  pub number : id < 2 ^ 31
  pub not_over : over_on states id ≡ None
  pub not_reset : is_reset states id ≡ false

-- what is found of a message, and what is in hand then, among all streams
abbrev pub BeginsMessage : ℕ → States → States → List ℕ → NextData → Type 0
BeginsMessage id old new message found = StandButWindows old new
    × (rest : List ℕ) × HandIs id (kept rest) (open_at old) (open_at new)
    × TakesData id old.windows new.windows message rest found
