-- The senders that come back at the end: that of an order which wasn't put, and those that the
-- writer had.
use Rattle.std.specs.Prelude.{ℕ, Contains, List}
use Rattle.callparts.specs.declared.order.OpeningCall.{OpeningCall}
use Rattle.callparts.specs.declared.order.ReturningCall.{ReturningCall}
use Rattle.callparts.specs.declared.register.Naming.{Ghosts as Naming}
use Rattle.outwriter.specs.declared.control.WriterOrder.{WriterOrder}
use Rattle.outwriter.specs.declared.control.WriterOrder.TheVariants.{Open}
use Rattle.readerloop.specs.Calls.{HasReturned, SentItems, carried_in}
use Rattle.writerloop.specs.declared.senders.Senders.{Senders}
use Rattle.writerloop.specs.Rest.{rest_calls, rest_numbers}
use Rattle.writerloop.specs.Sent.{got_of, numbered}

module _ {J : Type 0} {book : Naming J} where
  -- the sender of an order that opens a call got what is carried of the call
  abbrev pub CarriesOpen : List SentItems → WriterOrder (OpeningCall J book) → Type 0
  CarriesOpen sent (Open id opening) = HasReturned (carried_in sent) opening.sending.value
  CarriesOpen sent _ = Unit {0}

  -- each of the senders that a writer had at its end got what is carried of its call
  abbrev pub CarriesRest : List SentItems → Senders J book → Type 0
  CarriesRest sent rest =
      (returning : ReturningCall J book) (id : ℕ)
      → Contains (rest_numbers rest) (numbered id returning.sending.value)
      → Contains (rest_calls rest) (id, got_of returning.sending.value.sender)
      → HasReturned (carried_in sent) returning.sending.value
