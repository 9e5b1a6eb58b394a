-- The credit book of a connection: flow control of what is received (RFC 9113, sections 5.2 and
-- 6.9), on the connection and on each call that is live.
use Rattle.std.specs.Prelude.{
  ◌≡◌,
  ℕ,
  ◌+◌,
  ◌-◌,
  ◌%◌,
  ◌<◌,
  ◌≤◌,
  min,
  Bool,
  true,
  false,
  ◌&&◌,
  ◌||◌,
  IsTrue,
  if◌then◌else◌,
  List,
  [],
  ◌∷◌,
  ◌++◌,
  length,
  All,
  AllPairs,
  sum_by,
  Option,
  None,
  MatchOption,
  Result,
  Ok,
  Err,
  nat_eq,
  ◌⊎◌,
}
use Rattle.std.specs.Option.{option_map_or}
use Rattle.std.specs.Map.{lookup, set_value, remove_entry, keys_of, values_of}
use Rattle.creditbook.specs.declared.TheConstants.{MAX_RECEIVED}
use Rattle.limits.specs.declared.TheConstants.{INITIAL_WINDOW, MAX_LIVE}
use Rattle.creditbook.specs.declared.book.counts.Counts.{Counts}
use Rattle.creditbook.specs.declared.book.Call.{Call}
use Rattle.creditbook.specs.declared.book.Marks.{Marks}
use Rattle.creditbook.specs.declared.book.fault.BookFault.{BookFault}
use Rattle.creditbook.specs.declared.book.fault.BookFault.TheVariants.{
  TooMany,
  Draining,
  CallWindow,
  ConnectionWindow,
  Overgiven,
  Unknown,
  OutOfMemory,
}

-- the numbers of the faults
abbrev pub code_of : BookFault → ℕ
code_of TooMany = 1
code_of Draining = 2
code_of CallWindow = 3
code_of ConnectionWindow = 4
code_of Overgiven = 5
code_of Unknown = 6
code_of OutOfMemory = 7

-- The counts of the connection, the live calls in the order of their admission, the greatest id
-- that was admitted (0 for none), and whether no more are admitted. Of the counts, `received` are
-- the bytes of DATA that came, padding counted (section 6.9.1), `returned` those that were taken or
-- never will be, and `announced` those that WINDOW_UPDATE gave back to the peer.
pub record Books : Type 0 where
  pub connection : Counts
  pub calls : List (ℕ × Call)
  pub last : ℕ
  pub closing : Bool

abbrev pub no_bytes : Counts
no_bytes = record { received = 0; returned = 0; announced = 0 }

-- a call of which neither end is marked
abbrev pub new_call : Call
new_call = record { counts = no_bytes; marks = record { remote = false; local = false } }

-- a new connection
abbrev pub new_book : Books
new_book = record { connection = no_bytes; calls = []; last = 0; closing = false }

-- the call of an id, if it is live
abbrev pub call_at : Books → ℕ → Option Call
call_at b id = lookup (nat_eq id) b.calls

-- what came and wasn't returned yet
abbrev pub unreturned : Counts → ℕ
unreturned c = c.received - c.returned

-- what was returned and not announced yet
abbrev pub unannounced : Counts → ℕ
unannounced c = c.returned - c.announced

-- what the live calls haven't returned
abbrev pub unreturned_of : List (ℕ × Call) → ℕ
unreturned_of calls = sum_by (λ call. unreturned call.counts) (values_of calls)

-- what the connection hasn't returned beyond that: bytes of no live call
abbrev pub loose : Books → ℕ
loose b = unreturned b.connection - unreturned_of b.calls

-- n more bytes came, and are returned at once or not
abbrev pub with_received : Counts → ℕ → Bool → Counts
with_received c n at_once = record c
    { received = c.received + n; returned = if at_once then c.returned + n else c.returned }

-- n more bytes were returned
abbrev pub with_returned : Counts → ℕ → Counts
with_returned c n = record c { returned = c.returned + n }

-- all that was returned is announced
abbrev pub with_announced : Counts → Counts
with_announced c = record c { announced = c.returned }

-- a live call is replaced
abbrev pub with_call : Books → ℕ → Call → Books
with_call b id call = record b { calls = set_value (nat_eq id) b.calls call }

-- a change: on the connection alone where the id is 0, else of a call, if it is live
abbrev pub at_id : Books → ℕ → Books → (Call → Books) → Books
at_id b id alone change = if nat_eq id 0 then alone else option_map_or change (call_at b id) b

-- a call is admitted
abbrev pub after_admit : Books → ℕ → Books
after_admit b id = record b { calls = b.calls ++ (id, new_call) ∷ []; last = id }

-- ---- what ledgers beside the book rest on

-- what a function of the book changes: the bytes that came on the connection and those announced on
-- it, the calls that were admitted and those no longer live; and then the greatest id, and whether
-- no more are admitted
pub record Change : Type 0 where
  pub received : ℕ
  pub announced : ℕ
  pub admitted : ℕ
  pub over : ℕ
  pub last : ℕ
  pub closing : Bool

abbrev pub no_change : Books → Change
no_change b = record {
  received = 0;
  announced = 0;
  admitted = 0;
  over = 0;
  last = b.last;
  closing = b.closing;
}

-- this change leads from the old book to the new
pub record Moves (change : Change) (old new : Books) : Type 0 where
  pub received : new.connection.received ≡ old.connection.received + change.received
  pub announced : new.connection.announced ≡ old.connection.announced + change.announced
  pub live : length new.calls + change.over ≡ length old.calls + change.admitted
  pub last : new.last ≡ change.last
  pub closing : new.closing ≡ change.closing

-- ---- each function of the book

-- n bytes of DATA came. Bytes of a call whose local end is marked are returned at once, since they
-- won't be taken.
abbrev pub after_receive_on : Books → ℕ → ℕ → Call → Books
after_receive_on b id n call =
    record (with_call b id (record call { counts = with_received call.counts n call.marks.local }))
    { connection = with_received b.connection n call.marks.local }

abbrev pub after_receive : Books → ℕ → ℕ → Books
after_receive b id n =
    at_id b id (record b { connection = with_received b.connection n false })
    (after_receive_on b id n)

-- n bytes were returned
abbrev pub after_give_back_on : Books → ℕ → ℕ → Call → Books
after_give_back_on b id n call =
    record (with_call b id (record call { counts = with_returned call.counts n }))
    { connection = with_returned b.connection n }

abbrev pub after_give_back : Books → ℕ → ℕ → Books
after_give_back b id n =
    at_id b id (record b { connection = with_returned b.connection n }) (after_give_back_on b id n)

-- the call is live, and this end of it is marked
abbrev pub is_marked : (Marks → Bool) → Books → ℕ → Bool
is_marked end b id = option_map_or (λ call. end call.marks) (call_at b id) false

-- either end of the call is marked: no more DATA comes, or none is taken
abbrev pub is_half_closed : Call → Bool
is_half_closed call = call.marks.remote || call.marks.local

-- all that was returned is announced; on a call only while neither end is marked
abbrev pub after_announce : Books → ℕ → Books
after_announce b id =
    at_id b id (record b { connection = with_announced b.connection })
    (λ call.
    if is_half_closed call then b
    else with_call b id (record call { counts = with_announced call.counts }))

-- how much of that wasn't announced yet: the increment of a WINDOW_UPDATE that is due (section 6.9)
abbrev pub due_of : Call → ℕ
due_of call = if is_half_closed call then 0 else unannounced call.counts

abbrev pub announcement : Books → ℕ → ℕ
announcement b id =
    if nat_eq id 0 then unannounced b.connection else option_map_or due_of (call_at b id) 0

-- a call is no longer live: the rest of its bytes is returned on the connection
abbrev pub after_cut_on : Books → ℕ → Call → Books
after_cut_on b id call = record b {
  connection = with_returned b.connection (unreturned call.counts);
  calls = remove_entry (nat_eq id) b.calls;
}

abbrev pub after_cut : Books → ℕ → Books
after_cut b id = option_map_or (after_cut_on b id) (call_at b id) b

-- the peer's half of a call is over (END_STREAM); with both ends marked it is no longer live
abbrev pub after_end_remote_on : Books → ℕ → Call → Books
after_end_remote_on b id call =
    if call.marks.local then after_cut_on b id call
    else with_call b id (record call { marks = record call.marks { remote = true } })

abbrev pub after_end_remote : Books → ℕ → Books
after_end_remote b id = option_map_or (after_end_remote_on b id) (call_at b id) b

-- our half of a call is over: all that it hasn't returned is returned; with both ends marked it is
-- no longer live
abbrev pub local_closed : Books → ℕ → Call → Books
local_closed b id call =
    record (with_call b id (record {
      counts = with_returned call.counts (unreturned call.counts);
      marks = record call.marks { local = true };
    })) { connection = with_returned b.connection (unreturned call.counts) }

abbrev pub after_end_local_on : Books → ℕ → Call → Books
after_end_local_on b id call =
    if call.marks.remote then after_cut_on b id call else local_closed b id call

abbrev pub after_end_local : Books → ℕ → Books
after_end_local b id = option_map_or (after_end_local_on b id) (call_at b id) b

-- how many bytes the peer may still send (section 6.9.1): on the connection no more than can be
-- counted, and none on a call that isn't live
abbrev pub window_of : Books → ℕ → ℕ
window_of b id =
    if nat_eq id 0
    then min (INITIAL_WINDOW + b.connection.announced) MAX_RECEIVED - b.connection.received
    else option_map_or (λ call. (INITIAL_WINDOW + call.counts.announced) - call.counts.received)
    (call_at b id) 0

-- n more bytes are over what the peer may send (section 6.9.1)
abbrev pub IsOver : Counts → ℕ → Type 0
IsOver c n = INITIAL_WINDOW + c.announced < c.received + n

-- with n more bytes returned, more are returned than came
abbrev pub IsOvergiven : Counts → ℕ → Type 0
IsOvergiven c n = c.received < c.returned + n

-- why a call isn't admitted
abbrev pub AdmitCause : Books → BookFault → Type 0
AdmitCause b Draining = IsTrue b.closing
AdmitCause b TooMany = MAX_LIVE ≤ length b.calls
AdmitCause b CallWindow = ⊥
AdmitCause b ConnectionWindow = ⊥
AdmitCause b Overgiven = ⊥
AdmitCause b Unknown = ⊥
AdmitCause b OutOfMemory = ⊥

-- why bytes aren't received: they are over a window, or more than the connection can count
abbrev pub ReceiveCause : Books → ℕ → ℕ → BookFault → Type 0
ReceiveCause b id n Unknown = (0 < id) × (call_at b id ≡ None)
ReceiveCause b id n CallWindow =
    (0 < id) × MatchOption (call_at b id) ⊥ (λ call. IsOver call.counts n)
ReceiveCause b id n ConnectionWindow =
    min (INITIAL_WINDOW + b.connection.announced) MAX_RECEIVED < b.connection.received + n
ReceiveCause b id n TooMany = ⊥
ReceiveCause b id n Draining = ⊥
ReceiveCause b id n Overgiven = ⊥
ReceiveCause b id n OutOfMemory = ⊥

-- why bytes aren't returned
abbrev pub GiveBackCause : Books → ℕ → ℕ → BookFault → Type 0
GiveBackCause b id n Unknown = (0 < id) × (call_at b id ≡ None)
GiveBackCause b id n Overgiven =
    ((id ≡ 0) × (loose b < n))
    ⊎ ((0 < id) × MatchOption (call_at b id) ⊥ (λ call. IsOvergiven call.counts n))
GiveBackCause b id n TooMany = ⊥
GiveBackCause b id n Draining = ⊥
GiveBackCause b id n CallWindow = ⊥
GiveBackCause b id n ConnectionWindow = ⊥
GiveBackCause b id n OutOfMemory = ⊥

-- why a call isn't ended or cut
abbrev pub EndCause : Books → ℕ → BookFault → Type 0
EndCause b id Unknown = call_at b id ≡ None
EndCause b id TooMany = ⊥
EndCause b id Draining = ⊥
EndCause b id CallWindow = ⊥
EndCause b id ConnectionWindow = ⊥
EndCause b id Overgiven = ⊥
EndCause b id OutOfMemory = ⊥

-- the order of the tests: the id or the book, then the call's counts, then the connection's
abbrev pub place : BookFault → ℕ
place Draining = 0
place TooMany = 1
place Unknown = 0
place CallWindow = 1
place Overgiven = 1
place ConnectionWindow = 2
place OutOfMemory = 3

-- the fault has a cause, and no fault that is tested before it has one
abbrev pub IsFirst : (BookFault → Type 0) → BookFault → Type 0
IsFirst Cause fault =
    Cause fault × ((earlier : BookFault) → place earlier < place fault → ¬ Cause earlier)

abbrev pub NoneStands : (BookFault → Type 0) → Type 0
NoneStands Cause = (fault : BookFault) → ¬ Cause fault

-- an answer is the first fault that has a cause; it is Ok exactly where none has
abbrev pub Meets : (BookFault → Type 0) → Result (Unit {0}) BookFault → Type 0
Meets Cause (Ok _) = NoneStands Cause
Meets Cause (Err fault) = IsFirst Cause fault

-- the answer of a function that takes memory: without a cause for a fault, memory may be wanting
abbrev pub MeetsOrMemory : (BookFault → Type 0) → Result (Unit {0}) BookFault → Type 0
MeetsOrMemory Cause (Ok _) = NoneStands Cause
MeetsOrMemory Cause (Err OutOfMemory) = NoneStands Cause
MeetsOrMemory Cause (Err fault) = IsFirst Cause fault

-- counts at any time: no more is announced than was returned, no more was returned than came, and
-- no more came than the initial window and what was announced (sections 6.9.1 and 6.9.2)
pub record IsCounted (c : Counts) : Type 0 where
  pub announced_within : c.announced ≤ c.returned
  pub returned_within : c.returned ≤ c.received
  pub received_within : c.received ≤ INITIAL_WINDOW + c.announced

-- a live call of a connection that has received `most` bytes: its counts hold, it has returned all
-- if its local end is marked, and not both ends are marked
pub record IsLive (most : ℕ) (call : Call) : Type 0 where
  pub counted : IsCounted call.counts
  pub within : call.counts.received ≤ most
  pub all_returned : IsTrue call.marks.local → call.counts.returned ≡ call.counts.received
  pub one_end : call.marks.remote && call.marks.local ≡ false

abbrev pub IsOdd : ℕ → Type 0
IsOdd id = id % 2 ≡ 1

-- The law of the book, at any time.
pub record IsLawful (b : Books) : Type 0 where
  pub counted : IsCounted b.connection
  pub bounded : b.connection.received ≤ MAX_RECEIVED
  pub each : All (IsLive b.connection.received) (values_of b.calls)
  pub few : length b.calls ≤ MAX_LIVE
  pub odd : All IsOdd (keys_of b.calls)
  pub rising : AllPairs (λ id later. id < later) (keys_of b.calls)
  pub at_most_last : All (λ id. id ≤ b.last) (keys_of b.calls)
  -- what is loose isn't below 0
  pub loose_fits : unreturned_of b.calls ≤ unreturned b.connection
