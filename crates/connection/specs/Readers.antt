-- What the reader of a connection has followed: the words of `Heard`, of the reader before and
-- after.
use mathlib.Core.List.{IsPrefix}
use Rattle.std.specs.Prelude.{
  ◌≡◌,
  ◌⊎◌,
  ℕ,
  Bool,
  true,
  false,
  List,
  [],
  IfSome,
  IsSome,
  Option,
  None,
  Some,
}
use Rattle.std.specs.Io.KnownBytes.{IsAtEnd}
use Rattle.lane.specs.Ring.{in_name, out_name, put_in, taken}
use Rattle.lane.specs.RingEnds.{RingName}
use Rattle.lane.specs.declared.ring.RingIn.{RingIn}
use Rattle.lane.specs.declared.ring.RingOut.{RingOut}
use Rattle.callparts.specs.declared.call_account.CallAccount.{CallAccount}
use Rattle.callparts.specs.declared.order.OpeningCall.{OpeningCall}
use Rattle.callparts.specs.declared.order.ReturningCall.{ReturningCall}
use Rattle.callparts.specs.declared.register.Naming.{Ghosts as Naming}
use Rattle.callparts.specs.declared.report.Ending.{Ending}
use Rattle.callparts.specs.declared.report.Ending.TheVariants.{Drained, ReadFailed}
use Rattle.handlers.specs.declared.step.MethodStep.{MethodStep as Answer}
use Rattle.outwriter.specs.declared.control.WriterOrder.{WriterOrder}
use Rattle.session.specs.declared.event.InEvent.{InEvent}
use Rattle.readerloop.specs.declared.decision.Decision.{Decision}
use Rattle.readerloop.specs.Calls.{SentItems, carried_in}
use Rattle.readerloop.specs.Readings.{Reads}
use Rattle.readerloop.specs.Reports.{AreAccounts}
use Rattle.readerloop.specs.Steps.{Step, reported}
use Rattle.writerloop.specs.declared.senders.Senders.{Senders}
use Rattle.connection.specs.declared.orders.Route.{Ghosts}
use Rattle.connection.specs.declared.reader.Reader.{Reader}
use Rattle.connection.specs.Heard.{
  Acts,
  AreCarried,
  CutsSome,
  Grows,
  HasEnded,
  HasRead,
  IsOfInput,
  KeptFor,
  ReadsTo,
  ReadsWith,
}
use Rattle.connection.specs.Limits.{Covers, Tally}
use Rattle.connection.specs.Puts.{put_of}
use Rattle.connection.specs.Rest.{CarriesOpen, CarriesRest}

module _ {A B C J M N R G : Type 0} {book : Naming J} {route : Ghosts N}
    (known : ℕ → List (List ℕ) → Bool → Answer → Type 0) (names : List ℕ → ℕ → Type 0) where
  -- it has followed these steps, and the input goes on (`KeptFor`)
  abbrev pub HasFollowed : List SentItems → List Step → Reader A B C J M N R G book route → Type 0
  HasFollowed sent told reader = KeptFor known names sent told reader.reading reader.orders

  -- it follows these events, and ends the connection so, if it does (`ReadsTo`)
  abbrev pub Follows : List InEvent → Option Ending → Reader A B C J M N R G book route
      → Reader A B C J M N R G book route → Type 0
  Follows given end old new =
      ReadsTo known names given end old.reading old.orders new.reading new.orders

  -- so it does, and this is what it has counted, before and after (`ReadsWith`)
  abbrev pub FollowsWith : Tally → Tally → List InEvent → Option Ending
      → Reader A B C J M N R G book route → Reader A B C J M N R G book route → Type 0
  FollowsWith tally tally_new given end old new =
      ReadsWith known names tally tally_new given end old.reading old.orders new.reading new.orders

  -- It follows no event: it cuts calls, where the input has ended, or the server drains
  -- (`CutsSome`).
  abbrev pub ActsAlone : Bool → Reader A B C J M N R G book route
      → Reader A B C J M N R G book route → Type 0
  ActsAlone ended old new =
      CutsSome known names ended old.reading old.orders new.reading new.orders

  -- it does what was decided (`Acts`)
  abbrev pub Does : Decision J book → Reader A B C J M N R G book route
      → Reader A B C J M N R G book route → Type 0
  Does decided old new = Acts known names decided old.reading old.orders new.reading new.orders

  -- It has read to the end: of the bytes that came it has followed these steps, and it has counted
  -- no more than they have. The input has the rest.
  pub record HasReadOut (sent : List SentItems) (end : Ending) (came : List ℕ)
      (rest : Option (List ℕ)) (read_failed : Bool) (tally : Tally)
      (reader : Reader A B C J M N R G book route) : Type 0 where
    pub told : List Step
    pub read : HasRead known names sent end came told reader.reading reader.orders
    pub covered : Covers told tally
    -- a read failed only where it has that mark
    pub failed : end ≡ ReadFailed → read_failed ≡ true
    -- the input is at its end where the connection ended with it, and the writer didn't stop
    pub over : IsOfInput end → reader.orders.has_stopped ≡ false → IsAtEnd rest
    -- it ended since the server drains only at the end of its input, or where the book said that no
    -- call was live, if the writer didn't stop
    pub drained : end ≡ Drained → reader.orders.has_stopped ≡ false
        → IsAtEnd rest ⊎ IsSome reader.drained_book

  -- A connection has begun: its reader has followed nothing yet, and counted nothing, and the book
  -- didn't say yet that no call is live; the reader shares this ring of orders and this ring of
  -- senders with the writer. The device is as it was before.
  pub record HasBegun (ring : Option RingName) (before now : Option (List ℕ))
      (taking : RingOut (WriterOrder (OpeningCall J book))) (home : RingIn (ReturningCall J book))
      (tally : Tally) (reader : Reader A B C J M N R G book route) : Type 0 where
    pub kept : (sent : List SentItems) → HasFollowed sent [] reader
    pub none_home : taken reader.reading.home ≡ []
    pub uncounted : (tally.calls ≡ 0) × (tally.came ≡ 0)
    pub unasked : reader.drained_book ≡ None
    pub device : now ≡ before
    pub orders : ring ≡ Some (out_name taking)
    pub way : out_name reader.reading.home ≡ in_name home

  -- It finishes: whatever steps it followed before, some more cut all calls, and its last orders are
  -- that the input has ended and that no more orders come (`HasEnded`).
  pub record Finishes (old new : Reader A B C J M N R G book route) : Type 0 where
    -- more senders came back
    pub grows : Grows old.reading new.reading
    -- no order waits to be put
    pub none_left : new.orders.backlog.items ≡ []
    pub ended : (sent : List SentItems) (told : List Step)
        → AreCarried sent (taken new.reading.home)
        → Reads known names (carried_in sent) told old.reading
        → (cuts : List Step)
        × HasEnded known names sent told cuts new.reading old.orders new.orders

  -- It has taken the senders back that the writer had at its end. Its calls have these accounts.
  pub record HasTakenBack (senders : Senders J book) (calls : List CallAccount)
      (reader : Reader A B C J M N R G book route) : Type 0 where
    -- the senders that came back before are the first that the writer gave back
    pub came : IsPrefix (taken reader.reading.home) (put_in senders.sends.home)
    -- each call that was admitted has an account, whatever steps were followed, where all senders
    -- got what is carried of their calls
    pub accounts : (sent : List SentItems) (told : List Step)
        → AreCarried sent (put_in senders.sends.home) → CarriesRest sent senders
        → IfSome reader.orders.unput (CarriesOpen sent)
        → Reads known names (carried_in sent) told reader.reading
        → AreAccounts known names (carried_in sent) told (reported told) calls
