-- What went through the in side of a call: pieces, and then at most one shut.
use Rattle.std.specs.Prelude.{
  ◌≡◌,
  ℕ,
  Bool,
  true,
  false,
  List,
  [],
  ◌∷◌,
  ◌++◌,
  length,
  map,
  Option,
  Some,
  None,
  All,
}
use Rattle.std.specs.List.{concat}
use Rattle.lane.specs.Lawful.{count_of, last_of}
use Rattle.lpm.specs.declared.fault.LpmFault.{LpmFault}
use Rattle.lpm.specs.declared.fault.LpmFault.TheVariants.{
  Compressed,
  BadFlag,
  TooLong,
  CutAtEnd,
  OutOfMemory,
}
use Rattle.lpm.specs.Messages.{frames, IsMessage, Spells}
use Rattle.account.specs.declared.call.Account.{Account}
use Rattle.account.specs.declared.call.CallEvent.{CallEvent}
use Rattle.account.specs.declared.call.CallEvent.TheVariants as event
use Rattle.account.specs.declared.call.Shut.{Shut}
use Rattle.account.specs.declared.call.RequestEnd.{RequestEnd}
use Rattle.account.specs.declared.call.RequestEnd.TheVariants as told
use Rattle.callbox.specs.declared.piece.InPiece.{InPiece}
use Rattle.callbox.specs.declared.piece.InPiece.TheVariants as piece
use Rattle.callbox.specs.declared.taker.PolledItem.{PolledItem}
use Rattle.callbox.specs.declared.taker.PolledItem.TheVariants as polled
use Rattle.callbox.specs.declared.taker.Taken.{Taken}
use Rattle.callbox.specs.declared.taker.Taken.TheVariants as taken
use Rattle.callbox.specs.declared.taker.Progress.{Progress}
use Rattle.account.specs.Accounts.{MayTell}

-- the pieces of bytes, in order
abbrev pub pieces_of : List InPiece → List (List ℕ)
pieces_of [] = []
pieces_of (piece.Bytes bytes ∷ items) = bytes ∷ pieces_of items
pieces_of (piece.Shut closed ∷ items) = pieces_of items

-- the bytes of all pieces, joined
abbrev pub bytes_of : List InPiece → List ℕ
bytes_of items = concat (pieces_of items)

-- how the half was shut by them
abbrev pub shut_of : List InPiece → Option Shut
shut_of [] = None
shut_of (piece.Bytes bytes ∷ items) = shut_of items
shut_of (piece.Shut closed ∷ items) = Some closed

-- no item follows a shut
abbrev pub ends_at_shut : List InPiece → Bool
ends_at_shut [] = true
ends_at_shut (piece.Bytes bytes ∷ items) = ends_at_shut items
ends_at_shut (piece.Shut closed ∷ []) = true
ends_at_shut (piece.Shut closed ∷ item ∷ items) = false

abbrev pub is_piece : InPiece → Bool
is_piece (piece.Bytes bytes) = true
is_piece (piece.Shut closed) = false

-- what a polled item becomes; a piece that can't be shared becomes its length
abbrev pub IsPolled : InPiece → PolledItem → Type 0
IsPolled item (polled.Bytes bytes) = item ≡ piece.Bytes bytes
IsPolled item (polled.Shut closed) = item ≡ piece.Shut closed
IsPolled item (polled.Unshared len) =
    (bytes : List ℕ) × (item ≡ piece.Bytes bytes) × (len ≡ length bytes)

-- how many bytes an item has
abbrev pub length_of : InPiece → ℕ
length_of (piece.Bytes bytes) = length bytes
length_of (piece.Shut closed) = 0

-- the bytes that are missing: those of the last item, where it is an unread piece, or none
abbrev pub IsMissing : Bool → List InPiece → List ℕ → Type 0
IsMissing true items missing = last_of items ≡ Some (piece.Bytes missing)
IsMissing false items missing = missing ≡ []

-- These messages were taken of the items that were polled, and the taker keeps what follows them.
-- Where the last piece is unread, for want of memory, its bytes are missing from what it keeps.
pub record TakesMessages (items : List InPiece) (progress : Progress)
    (messages : List (List ℕ)) : Type 0 where
  pub missing : List ℕ
  pub whole : bytes_of items ≡ frames messages ++ (progress.splitter ++ missing)
  pub each : All IsMessage messages
  pub unread : IsMissing progress.unread items missing
  pub closed : progress.shut ≡ shut_of items
  pub telling : MayTell progress.told (bytes_of items) (shut_of items) messages
  pub count : progress.taken ≡ count_of messages

-- What was got spells these messages and then less than a whole one, and no shut came: so more is
-- needed before there is anything to take or tell.
abbrev pub NeedsMore : List InPiece → List (List ℕ) → Type 0
NeedsMore got messages =
    (rest : List ℕ) × Spells (bytes_of got) messages rest × (shut_of got ≡ None)

-- each of the items was got only where what had been got before it needed more
abbrev pub EachNeeded : List InPiece → List InPiece → List (List ℕ) → Type 0
EachNeeded got [] messages = Unit {0}
EachNeeded got (item ∷ items) messages =
    NeedsMore got messages × EachNeeded (got ++ item ∷ []) items messages

-- the messages that were taken, after an answer
abbrev pub grown : List (List ℕ) → Taken → List (List ℕ)
grown messages (taken.Message message) = messages ++ message ∷ []
grown messages taken.Nothing = messages
grown messages taken.End = messages
grown messages (taken.Reset code) = messages
grown messages (taken.Fault fault) = messages

-- the answer by which a thing is told
abbrev pub telling : RequestEnd → Taken
telling told.End = taken.End
telling (told.Reset code) = taken.Reset code
telling (told.Fault fault) = taken.Fault fault

abbrev pub TellsFault : LpmFault → Option RequestEnd → Option RequestEnd → Type 0
TellsFault Compressed old new = new ≡ Some (told.Fault Compressed)
TellsFault BadFlag old new = new ≡ Some (told.Fault BadFlag)
TellsFault TooLong old new = new ≡ Some (told.Fault TooLong)
TellsFault CutAtEnd old new = new ≡ Some (told.Fault CutAtEnd)
TellsFault OutOfMemory old new = new ≡ old

-- what was told before and after an answer
abbrev pub Tells : Taken → Option RequestEnd → Option RequestEnd → Type 0
Tells (taken.Message message) old new = new ≡ old
Tells taken.Nothing old new = (old ≡ None) × (new ≡ None)
Tells taken.End old new = new ≡ Some told.End
Tells (taken.Reset code) old new = new ≡ Some (told.Reset code)
Tells (taken.Fault fault) old new = TellsFault fault old new

-- the in side of an account
abbrev pub in_account : List (List ℕ) → Option Shut → List (List ℕ) → Option RequestEnd → Account
in_account pieces closed messages said = record {
  fed = concat pieces;
  shut = closed;
  taken = messages;
  told = said;
  given = [];
  sent = [];
}

-- one event for an option's value, if there is one
abbrev pub once : {A : Type 0} → (A → CallEvent) → Option A → List CallEvent
once event_of None = []
once event_of (Some x) = event_of x ∷ []

-- pieces, the shut, a Take for each message that was taken and one for what was told
abbrev pub in_events : List (List ℕ) → Option Shut → List (List ℕ)
    → Option RequestEnd → List CallEvent
in_events pieces closed messages said =
    map event.Feed pieces
    ++ (once event.Shut closed ++ (map (λ _. event.Take) messages ++ once (λ _. event.Take) said))

-- the shut, where it was put
abbrev pub shut_if : Bool → Shut → Option Shut
shut_if true kind = Some kind
shut_if false kind = None
