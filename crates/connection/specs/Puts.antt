-- The orders that the reading thread puts.
use Rattle.std.specs.Prelude.{
  ◌≡◌,
  ◌⊎◌,
  true,
  false,
  All,
  Contains,
  List,
  [],
  ◌∷◌,
  ◌++◌,
  map,
  Option,
  None,
  Some,
  IfSome,
  IsSomeAnd,
}
use Rattle.lane.specs.Ring.{put_in}
use Rattle.callparts.specs.declared.order.OpeningCall.{OpeningCall}
use Rattle.callparts.specs.declared.register.Naming.{Ghosts as Naming}
use Rattle.callparts.specs.Numbers.{request_at}
use Rattle.outwriter.specs.declared.control.WriterOrder.{WriterOrder}
use Rattle.outwriter.specs.declared.control.WriterOrder.TheVariants.{Open, Close}
use Rattle.outwriter.specs.Steps.{Order, order_of}
use Rattle.connection.specs.declared.orders.Orders.{Orders}
use Rattle.connection.specs.declared.orders.Route.{Ghosts}

module _ {J : Type 0} {book : Naming J} where
  -- a call that an order opens is in the register, at the number of its sender, with the order's
  -- stream
  abbrev pub IsOwn : WriterOrder (OpeningCall J book) → Type 0
  IsOwn (Open id opening) =
      IsSomeAnd (request_at opening.sending.value.number.seen.log
      opening.sending.value.number.value) (λ request. request.id ≡ id)
  IsOwn _ = Unit {0}

  -- an order that isn't put may be kept aside, in place of another
  abbrev pub IsKept : WriterOrder (OpeningCall J book) → Option (WriterOrder (OpeningCall J book))
      → Option (WriterOrder (OpeningCall J book)) → Type 0
  IsKept order old new = (new ≡ old) ⊎ (new ≡ Some order)

module _ {A B C J N : Type 0} {book : Naming J} {route : Ghosts N} where
  -- what was put, and the backlog, which is put behind it
  abbrev pub put_of : Orders A B C J N book route → List (WriterOrder (OpeningCall J book))
  put_of orders = put_in orders.outbox.tx ++ orders.backlog.items

  abbrev pub put_orders : Orders A B C J N book route → List Order
  put_orders orders = map (λ order. order_of order) (put_of orders)

  -- an order stands behind the others, none of which was dropped; or it is dropped, for want of
  -- memory, and may be kept aside
  abbrev pub Puts : WriterOrder (OpeningCall J book) → Orders A B C J N book route
      → Orders A B C J N book route → Type 0
  Puts order old new =
      ((put_of new ≡ put_of old ++ order ∷ []) × (old.has_dropped ≡ false)
      × (new.has_dropped ≡ false) × (new.unput ≡ old.unput))
      ⊎ ((put_of new ≡ put_of old) × (new.has_dropped ≡ true) × IsKept order old.unput new.unput)

  abbrev pub PutsAll : Option (WriterOrder (OpeningCall J book)) → Orders A B C J N book route
      → Orders A B C J N book route → Type 0
  PutsAll None old new = new ≡ old
  PutsAll (Some order) old new = Puts order old new

  -- nothing was put
  abbrev pub IsSame : Orders A B C J N book route → Orders A B C J N book route → Type 0
  IsSame old new =
      (new.outbox ≡ old.outbox) × (new.has_dropped ≡ old.has_dropped) × (new.unput ≡ old.unput)
      × (new.backlog ≡ old.backlog) × (new.has_stopped ≡ old.has_stopped)

  -- no more orders were dropped, and nothing more was seen of the writer
  pub record DropsNone (old new : Orders A B C J N book route) : Type 0 where
    pub stopped : new.has_stopped ≡ old.has_stopped
    pub dropped : new.has_dropped ≡ old.has_dropped
    pub unput : new.unput ≡ old.unput

  -- What was put begins these orders, and is all of them where none was dropped. The order that is
  -- kept aside is one of those that were dropped.
  pub record Ordered (all : List Order) (orders : Orders A B C J N book route) : Type 0 where
    pub dropped : List (WriterOrder (OpeningCall J book))
    pub parts : map (λ order. order_of order) (put_of orders ++ dropped) ≡ all
    pub own : All IsOwn (put_of orders ++ dropped)
    pub kept : IfSome orders.unput (Contains dropped)
    pub whole : orders.has_dropped ≡ false → dropped ≡ []

  -- What was put begins these orders, and ends with the order that no more come. Where no order was
  -- dropped it is all of them.
  pub record Closed (all : List Order) (orders : Orders A B C J N book route) : Type 0 where
    pub front : List (WriterOrder (OpeningCall J book))
    pub dropped : List (WriterOrder (OpeningCall J book))
    pub put : put_of orders ≡ front ++ Close ∷ []
    pub parts : map (λ order. order_of order) (front ++ dropped) ≡ all
    pub own : All IsOwn (front ++ dropped)
    pub kept : IfSome orders.unput (Contains dropped)
    pub whole : orders.has_dropped ≡ false → dropped ≡ []
