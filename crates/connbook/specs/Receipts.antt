-- What the functions of a shared credit book answer, and how they change it (RFC 9113, sections 5.2
-- and 6.9).
use Rattle.std.specs.Prelude.{
  ◌≡◌,
  ℕ,
  ◌<◌,
  ◌≤◌,
  Bool,
  true,
  false,
  if◌then◌else◌,
  [],
  Result,
  Ok,
  Err,
  nat_le,
  nat_lt,
  length,
}
use Rattle.std.specs.Option.{option_map_or}
use Rattle.limits.specs.declared.TheConstants.{MAX_LIVE}
use Rattle.creditbook.specs.declared.book.Call.{Call}
use Rattle.creditbook.specs.declared.book.fault.BookFault.{BookFault}
use Rattle.creditbook.specs.declared.book.fault.BookFault.TheVariants as faults
use Rattle.creditbook.specs.Books.{
  Books,
  IsOdd,
  call_at,
  window_of,
  announcement,
  with_received,
  with_returned,
  unreturned_of,
  after_admit,
  after_receive,
  after_give_back,
  after_announce,
  after_cut,
}
use Rattle.connbook.specs.declared.answers.Receipt.{Receipt}
use Rattle.connbook.specs.declared.answers.Receipt.TheVariants.{Feed, Discard, CallWindow, Overrun}
use Rattle.connbook.specs.declared.answers.AdmitFault.{AdmitFault}
use Rattle.connbook.specs.declared.answers.AdmitFault.TheVariants.{
  NotNew,
  Draining,
  TooMany,
  OutOfMemory,
}

-- ---- DATA that come

-- n bytes on a live call: past its window, taken by no one, or to be fed
abbrev pub receipt_on : Books → ℕ → ℕ → Call → Receipt
receipt_on b id n call =
    if nat_lt (window_of b id) n then CallWindow else if call.marks.local then Discard else Feed

-- The receipt of n bytes on an id. The connection's window is tested before the call's. Bytes of no
-- live call are taken by no one.
abbrev pub receipt_of : Books → ℕ → ℕ → Receipt
receipt_of b id n =
    if nat_lt (window_of b 0) n then Overrun
    else option_map_or (receipt_on b id n) (call_at b id) Discard

-- n bytes came on the connection alone, and are returned at once
abbrev pub after_loose : Books → ℕ → Books
after_loose b n = record b { connection = with_received b.connection n true }

-- The book after them. What is to be fed counts on its call and the connection, its padding as
-- returned; what is past the call's window, or on no live call, counts on the connection alone;
-- what is past the connection's window counts nowhere.
abbrev pub after_receipt : Books → ℕ → ℕ → ℕ → Receipt → Books
after_receipt b id n padding Feed = after_give_back (after_receive b id n) id padding
after_receipt b id n padding Discard =
    option_map_or (λ call. after_receive b id n) (call_at b id) (after_loose b n)
after_receipt b id n padding CallWindow = after_loose b n
after_receipt b id n padding Overrun = b

-- how many bytes of them count on the connection
abbrev pub counted_of : ℕ → Receipt → ℕ
counted_of n Overrun = 0
counted_of n _ = n

-- ---- calls that begin

-- an id that a new call may have (section 5.1.1)
abbrev pub IsNew : Books → ℕ → Type 0
IsNew b id = IsOdd id × (b.last < id)

-- nothing prevents the call
abbrev pub IsAdmissible : Books → ℕ → Type 0
IsAdmissible b id = IsNew b id × (b.closing ≡ false) × (length b.calls < MAX_LIVE)

-- why a call isn't admitted: at most one reason holds
abbrev pub AdmitCause : Books → ℕ → AdmitFault → Type 0
AdmitCause b id NotNew = ¬ IsNew b id
AdmitCause b id Draining = IsNew b id × (b.closing ≡ true)
AdmitCause b id TooMany = IsNew b id × (b.closing ≡ false) × (MAX_LIVE ≤ length b.calls)
AdmitCause b id OutOfMemory = IsAdmissible b id

-- what the book's answer to a new call is to its callers
abbrev pub admission_of : Result (Unit {0}) BookFault → Result (Unit {0}) AdmitFault
admission_of (Ok done) = Ok done
admission_of (Err faults.Draining) = Err Draining
admission_of (Err faults.TooMany) = Err TooMany
admission_of (Err fault) = Err OutOfMemory

abbrev pub Admits : Books → ℕ → Result (Unit {0}) AdmitFault → Type 0
Admits b id (Ok _) = IsAdmissible b id
Admits b id (Err fault) = AdmitCause b id fault

-- the book after it: if the writer has stopped, the call is cut at once
abbrev pub after_admission : Bool → Books → ℕ → Books
after_admission stopped b id = if stopped then after_cut (after_admit b id) id else after_admit b id

-- ---- credit

-- Credit is due on an id where what is to be announced is at least what the peer may still send. So
-- a peer never starves: if its window is shut, all that was returned is announced.
abbrev pub is_credit_due : Books → ℕ → Bool
is_credit_due b id = nat_le (window_of b id) (announcement b id)

abbrev pub credit_of : Books → ℕ → ℕ
credit_of b id = if is_credit_due b id then announcement b id else 0

abbrev pub after_credit : Books → ℕ → Books
after_credit b id = if is_credit_due b id then after_announce b id else b

-- ---- the end

-- no call is live any more, and what they hadn't returned is returned
abbrev pub after_stop : Books → Books
after_stop b =
    record b { connection = with_returned b.connection (unreturned_of b.calls); calls = [] }
