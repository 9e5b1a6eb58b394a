-- What is kept of open streams: the place of each one's sender, and what is in hand.
use Rattle.std.specs.Prelude.{
  ◌≡◌,
  ℕ,
  ◌==◌,
  Bool,
  true,
  false,
  List,
  [],
  ◌∷◌,
  Option,
  None,
  Some,
  is_some,
  if◌then◌else◌,
}
use Rattle.outwriter.specs.declared.stream.OpenStream.{OpenStream}

-- a stream that is open, by its number
abbrev pub OpenStreams : Type 0
OpenStreams = ℕ → Option OpenStream

-- the place of an open stream, and what is in hand
abbrev pub Shown : Type 0
Shown = Option (ℕ × Option (List ℕ))

abbrev pub shown : Option OpenStream → Shown
shown None = None
shown (Some stream) = Some (stream.place, stream.in_hand)

abbrev pub shows : OpenStreams → ℕ → Shown
shows streams id = shown (streams id)

-- an item is in hand
abbrev pub has_hand : Option OpenStream → Bool
has_hand None = false
has_hand (Some stream) = is_some stream.in_hand

abbrev pub with_hand : Option (List ℕ) → Shown → Shown
with_hand hand None = None
with_hand hand (Some s) = Some (s.0, hand)

abbrev pub SameHands : OpenStreams → OpenStreams → Type 0
SameHands old new = (k : ℕ) → shows new k ≡ shows old k

-- this is in hand of one stream now
abbrev pub HandIs : ℕ → Option (List ℕ) → OpenStreams → OpenStreams → Type 0
HandIs id hand old new =
    (k : ℕ) → shows new k ≡ (if k == id then with_hand hand (shows old k) else shows old k)

-- what is in hand of a message, if any of it is left
abbrev pub kept : List ℕ → Option (List ℕ)
kept [] = None
kept (byte ∷ bytes) = Some (byte ∷ bytes)

-- a stream isn't open any more
abbrev pub Closes : ℕ → OpenStreams → OpenStreams → Type 0
Closes id old new = (k : ℕ) → new k ≡ (if k == id then None else old k)

-- a stream isn't open any more, if it ends
abbrev pub Removes : ℕ → Bool → OpenStreams → OpenStreams → Type 0
Removes id true old new = Closes id old new
Removes id false old new = SameHands old new

-- a stream that becomes open
abbrev pub stream_at : ℕ → OpenStream
stream_at place = record { place = place; in_hand = None; in_turn = false }

-- a sender moves to another place
abbrev pub with_place : ℕ → ℕ → Shown → Shown
with_place from to None = None
with_place from to (Some s) = Some (if s.0 == from then to else s.0, s.1)

abbrev pub PlaceIs : ℕ → ℕ → ℕ → OpenStreams → OpenStreams → Type 0
PlaceIs id from to old new =
    (k : ℕ) → shows new k ≡ (if k == id then with_place from to (shows old k) else shows old k)
