-- The states of a connection's streams (RFC 9113, section 5.1), and the credit that is owed to the
-- peer (section 6.9).
use Rattle.std.specs.Prelude.{
  ◌≡◌,
  ◌≢◌,
  ℕ,
  ℤ,
  pos,
  int_le,
  ◌+ℤ◌,
  ◌<ℤ◌,
  ◌+◌,
  ◌<◌,
  ◌≤◌,
  ◌^◌,
  ◌==◌,
  ◌||◌,
  ◌&&◌,
  ◌⊎◌,
  min,
  not,
  nat_eq,
  Bool,
  true,
  false,
  List,
  [],
  ◌∷◌,
  ◌++◌,
  length,
  get_or,
  map,
  filter,
  All,
  MatchOption,
  Result,
  Ok,
  Err,
  Option,
  None,
  Some,
  is_some,
  if◌then◌else◌,
}
use Rattle.std.specs.Map.{lookup, set_value}
use Rattle.std.specs.Option.{option_map}
use Rattle.indexmap.specs.IndexMap.{insert_entry, set_value_at}
use Rattle.limits.specs.declared.TheConstants.{MAX_WINDOW}
use Rattle.sendwindows.specs.WindowHistory.{Step, Follows, Opening, Closing}
use Rattle.sendwindows.specs.declared.send_windows.WindowFault.{WindowFault}
use Rattle.sendwindows.specs.declared.send_windows.WindowFault.TheVariants.{Overflow, Unknown}
use Rattle.sendwindows.specs.Windows.{
  SharedWindow,
  Windows,
  Fits as FitsWindow,
  balance,
  lesser_if_open,
  new_windows,
}
use Rattle.outwriter.specs.declared.stream_state.Change.{Change}
use Rattle.outwriter.specs.declared.stream_state.Change.TheVariants as change
use Rattle.outwriter.specs.declared.stream_state.Over.{Over}
use Rattle.outwriter.specs.declared.stream_state.Over.TheVariants as end_by
use Rattle.outwriter.specs.declared.stream_state.StreamState.{StreamState}
use Rattle.outwriter.specs.declared.stream_state.StreamState.TheVariants.{NoCall, Call, Reset}
use Rattle.outwriter.specs.declared.states.Stream.{Stream}
use Rattle.outwriter.specs.declared.stream.OpenStream.{OpenStream}
use Rattle.outwriter.specs.OpenStreams.{OpenStreams}

-- what is owed on the connection, each stream of which something was heard or on which something
-- was written, what is kept of the open ones, and the windows of what is sent
pub record States : Type 0 where
  pub connection : ℕ
  pub streams : List (ℕ × StreamState)
  pub opened : List (ℕ × Option OpenStream)
  pub windows : Windows

-- ---- one stream

-- its end was written by RST_STREAM
abbrev pub by_reset : Over → Bool
by_reset end_by.EndStream = false
by_reset end_by.RstStream = true

-- what was written of a stream's end
abbrev pub end_of : StreamState → Option Over
end_of (NoCall over) = over
end_of (Call owed over) = over
end_of (Reset is_call over) = over

abbrev pub amount_of : StreamState → ℕ
amount_of (NoCall over) = 0
amount_of (Call owed over) = owed
amount_of (Reset is_call over) = 0

-- credit may be owed on it
abbrev pub is_paid : StreamState → Bool
is_paid (NoCall over) = false
is_paid (Call owed over) = true
is_paid (Reset is_call over) = false

abbrev pub is_of_call : StreamState → Bool
is_of_call (NoCall over) = false
is_of_call (Call owed over) = true
is_of_call (Reset is_call over) = is_call

abbrev pub is_reset_state : StreamState → Bool
is_reset_state (NoCall over) = false
is_reset_state (Call owed over) = false
is_reset_state (Reset is_call over) = true

-- it has neither ended nor been reset
abbrev pub can_write : StreamState → Bool
can_write state = not (is_some (end_of state)) && not (is_reset_state state)

-- a stream of which nothing was heard is no call's
abbrev pub state_in : Option StreamState → StreamState
state_in None = NoCall None
state_in (Some state) = state

-- ---- all of them

abbrev pub state_on : States → ℕ → StreamState
state_on states id = state_in (lookup (nat_eq id) states.streams)

-- whether END_STREAM or RST_STREAM was written on a stream, and whether it was RST_STREAM
abbrev pub over_on : States → ℕ → Option Bool
over_on states id = option_map by_reset (end_of (state_on states id))

-- what is owed on a stream, or on the connection as stream 0
abbrev pub owed_on : States → ℕ → ℕ
owed_on states id = if id == 0 then states.connection else amount_of (state_on states id)

-- credit may be owed on it: on the connection, and on the stream of a call that wasn't reset
abbrev pub pays : States → ℕ → Bool
pays states id = if id == 0 then true else is_paid (state_on states id)

-- it is the stream of a call
abbrev pub knows : States → ℕ → Bool
knows states id = is_of_call (state_on states id)

-- it was reset, whether or not it is a call's
abbrev pub is_reset : States → ℕ → Bool
is_reset states id = is_reset_state (state_on states id)

-- something was heard of it, or written on it
abbrev pub is_heard : States → ℕ → Bool
is_heard states id = is_some (lookup (nat_eq id) states.streams)

abbrev pub nothing_known : States
nothing_known = record { connection = 0; streams = []; opened = []; windows = new_windows }

-- n more, and at most 2^31 - 1 at once
abbrev pub more : ℕ → ℕ → ℕ
more owed n = min (owed + n) MAX_WINDOW

abbrev pub opened_in : Option (Option OpenStream) → Option OpenStream
opened_in None = None
opened_in (Some opened) = opened

-- the streams that are open
abbrev pub open_at : States → OpenStreams
open_at states id = opened_in (lookup (nat_eq id) states.opened)

-- nothing more may be written on a stream, or it isn't open
abbrev pub IsShut : States → ℕ → Type 0
IsShut states id = (can_write (state_on states id) ≡ false) ⊎ (open_at states id ≡ None)

-- ---- what changes of them

-- only what is kept of the open streams changes
abbrev pub StandAs : States → States → Type 0
StandAs old new = new ≡ record old { opened = new.opened }

-- only what is kept of the open streams and the windows changes
abbrev pub StandButWindows : States → States → Type 0
StandButWindows old new = new ≡ record old { opened = new.opened; windows = new.windows }

-- only the windows change
abbrev pub SameButWindows : States → States → Type 0
SameButWindows old new = new ≡ record old { windows = new.windows }

-- whatever history led to the windows before, with these steps, of which the latest is first, it
-- leads to those after
abbrev pub Moves : States → List Step → States → Type 0
Moves old steps new =
    (history : List Step) → Follows history old.windows → Follows (steps ++ history) new.windows

-- an Open opens a stream's window, unless that is open, or the stream is over or was reset
abbrev pub opens_window : States → ℕ → Bool
opens_window states id = can_write (state_on states id) && not (is_some (balance states.windows id))

-- such an Open in a history of windows
abbrev pub opening : States → ℕ → List Step
opening states id = if opens_window states id then Opening id ∷ [] else []

-- the open streams don't change
abbrev pub SameOpen : States → States → Type 0
SameOpen old new = open_at new ≡ open_at old

-- which streams are a call's, which may be owed something, and which were reset doesn't change
abbrev pub SameStreams : States → States → Type 0
SameStreams old new =
    (id : ℕ)
    → (knows new id ≡ knows old id) × (pays new id ≡ pays old id)
    × (is_reset new id ≡ is_reset old id)

-- which streams' ends were written doesn't change
abbrev pub SameOver : States → States → Type 0
SameOver old new = (id : ℕ) → over_on new id ≡ over_on old id

-- which streams' ends were written, and which were heard of, doesn't change
abbrev pub SameEnds : States → States → Type 0
SameEnds old new =
    (id : ℕ) → (over_on new id ≡ over_on old id) × (is_heard new id ≡ is_heard old id)

-- this stream was heard of too
abbrev pub Hears : States → ℕ → States → Type 0
Hears old id new = (other : ℕ) → is_heard new other ≡ ((other == id) || is_heard old other)

-- what is owed doesn't change
abbrev pub SameOwed : States → States → Type 0
SameOwed old new = SameStreams old new × ((id : ℕ) → owed_on new id ≡ owed_on old id)

-- the end of a stream is written, by RST_STREAM or not
abbrev pub SetsEnd : States → ℕ → Bool → States → Type 0
SetsEnd old id value new =
    ((other : ℕ) → over_on new other ≡ (if other == id then Some value else over_on old other))
    × Hears old id new

-- a call begins, on whose stream credit may be owed unless it was reset
abbrev pub Opens : States → ℕ → States → Type 0
Opens old id new = (other : ℕ) → (owed_on new other ≡ owed_on old other)
    × (knows new other ≡ (if other == id then true else knows old other))
    × (pays new other ≡ (if other == id then not (is_reset old id) else pays old other))
    × (is_reset new other ≡ is_reset old other)

-- n bytes more are owed on a stream that may be owed something
abbrev pub Grants : States → ℕ → ℕ → States → Type 0
Grants old id n new = SameStreams old new
    × ((other : ℕ)
    → owed_on new other
    ≡ (if other == id then (if pays old id then more (owed_on old id) n else 0)
    else owed_on old other))

-- a stream is reset, and nothing is owed on it any more
abbrev pub Resets : States → ℕ → States → Type 0
Resets old id new = (other : ℕ) → (knows new other ≡ knows old other)
    × (owed_on new other ≡ (if other == id then 0 else owed_on old other))
    × (pays new other ≡ (if other == id then false else pays old other))
    × (is_reset new other ≡ (if other == id then true else is_reset old other))

-- all that is owed on a stream is taken, or nothing is owed at all
abbrev pub TakesAll : States → Option (ℕ × ℕ) → States → Type 0
TakesAll old None new =
    ((id : ℕ) → owed_on old id ≡ 0) × ((id : ℕ) → owed_on new id ≡ 0) × SameStreams old new
TakesAll old (Some taken) new =
    (0 < taken.1) × (taken.1 ≤ MAX_WINDOW) × (pays old taken.0 ≡ true)
    × (owed_on old taken.0 ≡ taken.1)
    × ((id : ℕ) → owed_on new id ≡ (if id == taken.0 then 0 else owed_on old id))
    × SameStreams old new

-- a state is put at a stream
abbrev pub Puts : States → ℕ → StreamState → States → Type 0
Puts old id state new =
    (other : ℕ)
    → lookup (nat_eq other) new.streams
    ≡ (if nat_eq id other then Some state else lookup (nat_eq other) old.streams)

-- a stream becomes open of which nothing was heard
abbrev pub BecomesOpen : States → ℕ → Option OpenStream → States → Type 0
BecomesOpen old id opened new =
    (other : ℕ)
    → open_at new other
    ≡ (if not (is_heard old id) && (other == id) then opened else open_at old other)

-- ---- what changes a stream's state

abbrev pub HasParts : Option Over → ℕ → Bool → Bool → Bool → StreamState → Type 0
HasParts over amount call paid was_reset state =
    (end_of state ≡ over) × (amount_of state ≡ amount) × (is_of_call state ≡ call)
    × (is_paid state ≡ paid) × (is_reset_state state ≡ was_reset)

-- a stream's state after a change
abbrev pub IsAfter : Change → StreamState → StreamState → Type 0
IsAfter change.Open old new =
    HasParts (end_of old) (amount_of old) true (not (is_reset_state old)) (is_reset_state old) new
IsAfter change.Hear old new =
    HasParts (end_of old) (amount_of old) (is_of_call old) (is_paid old) (is_reset_state old) new
IsAfter change.Reset old new = HasParts (end_of old) 0 (is_of_call old) false true new
IsAfter (change.End by) old new =
    HasParts (Some by) (amount_of old) (is_of_call old) (is_paid old) (is_reset_state old) new

-- the balance of a stream's window after a change: an Open opens the window, unless it is open, or
-- the stream is over or was reset; a reset and the stream's end close it
abbrev pub balance_after : Change → StreamState → Option ℤ → Option ℤ
balance_after change.Open state kept =
    if can_write state && not (is_some kept) then Some (pos 0) else kept
balance_after change.Hear state kept = kept
balance_after change.Reset state kept = None
balance_after (change.End by) state kept = None

-- which steps of the windows a change is
abbrev pub steps_of : Change → States → ℕ → List Step
steps_of change.Open states id = opening states id
steps_of change.Hear states id = []
steps_of change.Reset states id = Closing id ∷ []
steps_of (change.End by) states id = Closing id ∷ []

-- the state after a change is put at a stream
abbrev pub PutsAfter : Change → States → ℕ → States → Type 0
PutsAfter change old id new =
    (state : StreamState) × IsAfter change (state_on old id) state × Puts old id state new

-- ---- the window of one stream, by its balance

-- how many bytes may be sent on it: none, if its window isn't open
abbrev pub room_in : SharedWindow → Option ℤ → ℕ
room_in shared kept =
    lesser_if_open shared.connection (option_map (λ b. pos shared.initial +ℤ b) kept)

-- with this initial size it is at most 2^31 - 1, if it is open
abbrev pub fits_with : ℕ → Option ℤ → Bool
fits_with size None = true
fits_with size (Some b) = int_le (pos size +ℤ b) (pos MAX_WINDOW)

-- it is credited, or isn't open, or would be larger than 2^31 - 1
abbrev pub CreditsStream : SharedWindow → Option ℤ → Option ℤ → ℕ
    → Result (Unit {0}) WindowFault → Type 0
CreditsStream shared None new n answer = (new ≡ None) × (answer ≡ Err Unknown)
CreditsStream shared (Some b) new n (Ok done) =
    (new ≡ Some (b +ℤ pos n)) × FitsWindow ((pos shared.initial +ℤ b) +ℤ pos n)
CreditsStream shared (Some b) new n (Err fault) =
    (new ≡ Some b) × (fault ≡ Overflow) × (pos MAX_WINDOW <ℤ ((pos shared.initial +ℤ b) +ℤ pos n))

-- ---- the streams as entries

-- the balances of the open windows. No stream has two entries; if one had, its first would count
abbrev pub balance_first : ℕ → Option ℤ → List (ℕ × ℤ) → List (ℕ × ℤ)
balance_first id None others = filter (λ other. not (nat_eq id other.0)) others
balance_first id (Some b) others = (id, b) ∷ others

abbrev pub balances_of : List (ℕ × Stream) → List (ℕ × ℤ)
balances_of [] = []
balances_of (entry ∷ entries) = balance_first entry.0 entry.1.balance (balances_of entries)

abbrev pub windows_of : SharedWindow → List (ℕ × Stream) → Windows
windows_of shared streams = record {
  connection = shared.connection;
  initial = shared.initial;
  balances = balances_of streams;
}

abbrev pub balance_in : Option Stream → Option ℤ
balance_in None = None
balance_in (Some stream) = stream.balance

-- the states that entries are
abbrev pub states_of : ℕ → SharedWindow → List (ℕ × Stream) → States
states_of connection shared streams = record {
  connection = connection;
  streams = map (λ entry. (entry.0, entry.1.state)) streams;
  opened = map (λ entry. (entry.0, entry.1.opened)) streams;
  windows = windows_of shared streams;
}

abbrev pub state_of : Option Stream → Option StreamState
state_of found = option_map (λ stream. stream.state) found

abbrev pub opened_of : Option Stream → Option OpenStream
opened_of None = None
opened_of (Some stream) = stream.opened

-- the entries with this put at a stream
abbrev pub PutsEntry : List (ℕ × Stream) → ℕ → Stream → List (ℕ × Stream) → Type 0
PutsEntry old id stream new =
    (other : ℕ)
    → lookup (nat_eq other) new
    ≡ (if nat_eq id other then Some stream else lookup (nat_eq other) old)

-- a stream: one of which nothing was heard is no call's, and may be given as open
abbrev pub stream_in : Option OpenStream → Option Stream → Stream
stream_in opened None = record { state = NoCall None; opened = opened; balance = None }
stream_in opened (Some stream) = stream

-- a stream changes its state
abbrev pub IsChanged : Change → Stream → Stream → Type 0
IsChanged change old new =
    (new.opened ≡ old.opened) × IsAfter change old.state new.state
    × (new.balance ≡ balance_after change old.state old.balance)

-- the entries after a stream changes its state
abbrev pub Changes : List (ℕ × Stream) → ℕ → Change → Option OpenStream → List (ℕ × Stream) → Type 0
Changes old id change opened new =
    (now : Stream) × IsChanged change (stream_in opened (lookup (nat_eq id) old)) now
    × PutsEntry old id now new × (new ≡ insert_entry nat_eq old id now)

-- the balance of a window is set, if the stream is there
abbrev pub SetsBalance : List (ℕ × Stream) → ℕ → Option ℤ → List (ℕ × Stream) → Type 0
SetsBalance old id kept new =
    MatchOption (lookup (nat_eq id) old) (new ≡ old)
    (λ was. new ≡ set_value (nat_eq id) old (record was { balance = kept }))

-- the window of a stream is credited, if the stream is there
abbrev pub CreditsEntry : SharedWindow → List (ℕ × Stream) → ℕ → List (ℕ × Stream) → ℕ
    → Result (Unit {0}) WindowFault → Type 0
CreditsEntry shared old id new n answer =
    MatchOption (lookup (nat_eq id) old) ((new ≡ old) × (answer ≡ Err Unknown))
    (λ was.
    (kept : Option ℤ) × (new ≡ set_value (nat_eq id) old (record was { balance = kept }))
    × CreditsStream shared was.balance kept n answer)

-- at most, what is kept of an open stream changes
abbrev pub Edits : List (ℕ × Stream) → ℕ → List (ℕ × Stream) → Type 0
Edits old id new =
    (new ≡ old)
    ⊎ ((was : Stream) × (opened : Option OpenStream) × (lookup (nat_eq id) old ≡ Some was)
    × (new ≡ set_value (nat_eq id) old (record was { opened = opened })))

-- all of a stream changes but the amount that is owed on it
abbrev pub KeepsAmount : List (ℕ × Stream) → ℕ → List (ℕ × Stream) → Type 0
KeepsAmount old id new = (new ≡ old)
    ⊎ ((was : Stream) × (now : Stream) × (lookup (nat_eq id) old ≡ Some was)
    × (amount_of now.state ≡ amount_of was.state) × (new ≡ set_value (nat_eq id) old now))

-- n more are owed on a stream that may be owed something, at its place
abbrev pub Adds : List (ℕ × Stream) → ℕ → ℕ → Option ℕ → List (ℕ × Stream) → Type 0
Adds old id n None new =
    (new ≡ old) × (is_paid (state_in (state_of (lookup (nat_eq id) old))) ≡ false)
Adds old id n (Some place) new = (owed : ℕ) × (over : Option Over) × (was : Stream)
    × (lookup (nat_eq id) old ≡ Some (record was { state = Call owed over })) × (place < length old)
    × PutsEntry old id (record was { state = Call (more owed n) over }) new
    × (new ≡ set_value_at old place (record was { state = Call (more owed n) over }))

-- nothing is owed here
abbrev pub IsSettled : Stream → Type 0
IsSettled stream = amount_of stream.state ≡ 0

-- nothing is owed on the streams from a place on, but perhaps at the place `but`
abbrev pub IsSettledFrom : ℕ → List (ℕ × Stream) → Type 0
IsSettledFrom owing streams =
    (k : ℕ) (d : ℕ × Stream) → owing ≤ k → k < length streams → IsSettled (get_or streams k d).1

abbrev pub IsSettledBut : ℕ → ℕ → List (ℕ × Stream) → Type 0
IsSettledBut but owing streams =
    (k : ℕ) (d : ℕ × Stream) → owing ≤ k → k < length streams → k ≢ but
    → IsSettled (get_or streams k d).1

-- all that is owed at a place is taken, or nothing is owed there
abbrev pub TakesAt : List (ℕ × Stream) → ℕ → Option (ℕ × ℕ) → List (ℕ × Stream) → Type 0
TakesAt old place None new = (new ≡ old) × ((d : ℕ × Stream) → IsSettled (get_or old place d).1)
TakesAt old place (Some taken) new = (over : Option Over) × (was : Stream) × (0 < taken.1)
    × (lookup (nat_eq taken.0) old ≡ Some (record was { state = Call taken.1 over }))
    × PutsEntry old taken.0 (record was { state = Call 0 over }) new
    × (new ≡ set_value_at old place (record was { state = Call 0 over }))

-- all that is owed at the last of the first places that owe something is taken, or nothing is owed
-- there
abbrev pub TakesLast : List (ℕ × Stream) → ℕ → Option (ℕ × ℕ) → List (ℕ × Stream) → Type 0
TakesLast old place None new = (new ≡ old) × (place ≡ 0)
TakesLast old place (Some taken) new = TakesAt old place (Some taken) new

-- an amount is at most 2^31 - 1
abbrev pub Fits : Stream → Type 0
Fits stream = amount_of stream.state ≤ MAX_WINDOW

abbrev pub AllFit : List (ℕ × Stream) → Type 0
AllFit streams = All (λ stream. Fits stream.1) streams

-- the number of a stream has 31 bits (RFC 9113, section 5.1.1)
abbrev pub AreNumbered : List (ℕ × Stream) → Type 0
AreNumbered streams = (id : ℕ) → is_some (lookup (nat_eq id) streams) ≡ true → id < 2 ^ 31

-- what always holds of the amounts: at most 2^31 - 1 each, and none on the streams from a place on;
-- the connection isn't among the streams
pub record IsWithin (connection : ℕ) (streams : List (ℕ × Stream)) (owing : ℕ) : Type 0 where
  pub connection_fits : connection ≤ MAX_WINDOW
  pub place : owing ≤ length streams
  pub fit : AllFit streams
  pub settled : IsSettledFrom owing streams
  pub apart : is_some (lookup (nat_eq 0) streams) ≡ false
  pub numbered : AreNumbered streams
