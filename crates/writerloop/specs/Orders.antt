-- The orders that the core of a connection's writer takes: those of the reader, one after another,
-- and between them the writer's own. These are its answer to an order that makes a window too
-- large, its reset of a call that was left without trailers, and its warning that this side is to
-- end the connection. Lists of orders have the earliest first, runs the latest.
use Rattle.reasons.specs.declared.Reason.TheVariants as reason
use Rattle.std.specs.Prelude.{
  ◌≡◌,
  ◌⊎◌,
  ℕ,
  Bool,
  true,
  false,
  List,
  [],
  ◌∷◌,
  ◌++◌,
  map,
  Option,
  None,
  Some,
}
use Rattle.std.specs.List.{list_any}
use Rattle.lane.specs.Ring.{taken, out_name}
use Rattle.h2frame.specs.declared.error_code.ErrorCode.TheVariants.{InternalError}
use Rattle.outwriter.specs.declared.control.WriterOrder.{WriterOrder}
use Rattle.outwriter.specs.declared.control.WriterOrder.TheVariants.{
  Probe,
  Open,
  Settings,
  Window,
  Reset,
  Goaway,
  InputEnded,
  Close,
}
use Rattle.outwriter.specs.declared.control.OutFault.TheVariants.{PeerWindow}
use Rattle.outwriter.specs.Drains.{draining, is_going_away, warning, was_probed}
use Rattle.outwriter.specs.RunState.{Blames, Concerns, HasRoom}
use Rattle.outwriter.specs.Steps.{Order, Step, Taken, Granted, Written, Returned, order_of}
use Rattle.writerloop.specs.declared.order_outcome.OrderOutcome.{OrderOutcome}
use Rattle.writerloop.specs.declared.order_outcome.OrderOutcome.TheVariants.{
  Done,
  Ended,
  Unanswered,
  HandedBack,
}
use Rattle.writerloop.specs.OwnOrders.{own_order}
use Rattle.writerloop.specs.declared.inbox.Inbox.{Inbox}
use Rattle.writerloop.specs.declared.steps.WaitingOrder.{WaitingOrder}
use Rattle.writerloop.specs.declared.steps.WaitingOrder.TheVariants.{Nothing, Other}
use Rattle.writerloop.specs.declared.steps.WaitingOrder.TheVariants as waiting

-- ---- what a run obeys

-- The order taken last makes a window of the peer's too large, and this one ends the stream or the
-- connection (RFC 9113, sections 6.9.1 and 6.9.2).
abbrev pub IsAnswer : Order → List Step → Type 0
IsAnswer order (Taken blamed ∷ before) =
    (last : ℕ) × (id : ℕ) × (order ≡ own_order last id) × Concerns (PeerWindow id) blamed
    × Blames (PeerWindow id) blamed before
IsAnswer order _ = ⊥

-- the order is one of these
abbrev pub IsAmong : Order → List Order → Type 0
IsAmong order [] = ⊥
IsAmong order (one ∷ orders) = (order ≡ one) ⊎ IsAmong order orders

-- no more comes from the peer
abbrev pub ends_input : Order → Bool
ends_input InputEnded = true
ends_input _ = false

-- no more orders come
abbrev pub closes : Order → Bool
closes Close = true
closes _ = false

-- The writer resets the stream of a call that one of these orders opened, none of which ends the
-- peer's input.
abbrev pub ResetsCall : Order → List Order → Type 0
ResetsCall order orders =
    (id : ℕ) × (order ≡ Reset id InternalError true) × IsAmong (Open id tt) orders
    × (list_any ends_input orders ≡ false)

-- The writer warns its peer that this side is to end the connection while calls go on (RFC 9113,
-- section 6.8): by the GOAWAY that names the greatest number of a stream, where no GOAWAY was
-- ordered before; and by a PING, once.
abbrev pub Warns : Order → List Step → Type 0
Warns order before =
    ((order ≡ warning) × (is_going_away before ≡ false))
    ⊎ ((order ≡ Probe draining) × (was_probed before ≡ false))

-- each of these orders was taken, in order, and between them the writer's own
abbrev pub HasTaken : List Order → List Step → Type 0
HasTaken orders [] = orders ≡ []
HasTaken orders (Taken order ∷ before) =
    ((earlier : List Order) × (orders ≡ earlier ++ order ∷ []) × HasTaken earlier before)
    ⊎ ((IsAnswer order before ⊎ (ResetsCall order orders ⊎ Warns order before))
    × HasTaken orders before)
HasTaken orders (Granted id n ∷ before) = HasTaken orders before
HasTaken orders (Written frame ∷ before) = HasTaken orders before
HasTaken orders (Returned id items ∷ before) = HasTaken orders before

-- an order concerns the stream, or the connection, that the next one ends
abbrev pub EndsBy : Order → Option Order → Type 0
EndsBy order None = ⊥
EndsBy order (Some own) =
    (last : ℕ) × (id : ℕ) × (own ≡ own_order last id) × Concerns (PeerWindow id) order

-- Each order that was taken makes no window too large, or the writer's own answer was taken next.
-- To the last order the answer may lack.
abbrev pub AreAnswered : Bool → Option Order → List Step → Type 0
AreAnswered lacks next [] = Unit {0}
AreAnswered lacks next (Taken order ∷ before) =
    (HasRoom order before ⊎ (EndsBy order next ⊎ (lacks ≡ true)))
    × AreAnswered false (Some order) before
AreAnswered lacks next (Granted id n ∷ before) = AreAnswered lacks None before
AreAnswered lacks next (Written frame ∷ before) = AreAnswered lacks None before
AreAnswered lacks next (Returned id items ∷ before) = AreAnswered lacks None before

-- these steps took nothing but the GOAWAY of a writer without memory, and a Close that is one of
-- these orders
abbrev pub AreLast : List Order → List Step → Type 0
AreLast orders [] = Unit {0}
AreLast orders (Taken order ∷ before) =
    (((last : ℕ) × (order ≡ Goaway last reason.Memory)) ⊎ ((order ≡ Close) × IsAmong order orders))
    × AreLast orders before
AreLast orders (Granted id n ∷ before) = AreLast orders before
AreLast orders (Written frame ∷ before) = AreLast orders before
AreLast orders (Returned id items ∷ before) = AreLast orders before

-- A beginning of these orders was obeyed, and the answer to the last of them may lack. The rest was
-- lost, but for a Close that may have been taken after a GOAWAY of the writer's own.
pub record HasParted (orders : List Order) (run : List Step) : Type 0 where
  pub front : List Order
  pub rest : List Order
  pub ends : List Step
  pub steps : List Step
  pub orders_are : orders ≡ front ++ rest
  pub run_is : run ≡ ends ++ steps
  pub took : HasTaken front steps
  pub answered : AreAnswered true None steps
  pub ended : AreLast rest ends

-- The run took these orders and the writer's own, which answer each order that makes a window too
-- large; or some orders were lost for want of memory, if the flag allows it.
abbrev pub Obeys : Bool → List Order → List Step → Type 0
Obeys false orders run = HasTaken orders run × AreAnswered false None run
Obeys true orders run = HasParted orders run

-- ---- the ring of orders

module _ {S : Type 0} where
  abbrev pub orders_of : List (WriterOrder S) → List Order
  orders_of controls = map (λ control. order_of control) controls

  -- a GOAWAY, or a PING of this side's own
  abbrev pub IsWarning : WriterOrder S → Type 0
  IsWarning (Goaway last cause) = Unit {0}
  IsWarning (Probe bytes) = Unit {0}
  IsWarning _ = ⊥

  -- the order opens no call
  abbrev pub OpensNone : WriterOrder S → Type 0
  OpensNone (Open id opening) = ⊥
  OpensNone _ = Unit {0}

  abbrev pub order_in : Option (WriterOrder S) → List (WriterOrder S)
  order_in None = []
  order_in (Some control) = control ∷ []

  -- an inbox has given these orders, and may have set the next one aside
  abbrev pub HasGiven : List (WriterOrder S) → Inbox S → Type 0
  HasGiven given inbox = given ++ order_in inbox.set_aside ≡ taken inbox.ring

  -- an inbox gives the next order, if there is one, and none is set aside
  pub record Gives (next : Option (WriterOrder S)) (old new : Inbox S) : Type 0 where
    pub name : out_name new.ring ≡ out_name old.ring
    pub lost : new.has_lost ≡ old.has_lost
    pub none_aside : new.set_aside ≡ None
    pub given : (given : List (WriterOrder S)) → HasGiven given old
        → HasGiven (given ++ order_in next) new

  -- an inbox gives no order
  pub record Keeps (old new : Inbox S) : Type 0 where
    pub name : out_name new.ring ≡ out_name old.ring
    pub lost : new.has_lost ≡ old.has_lost
    pub given : (given : List (WriterOrder S)) → HasGiven given old → HasGiven given new

  -- whether an order waits, and whether it may make a window of the peer's overflow, or is a GOAWAY
  abbrev pub waiting_of : Option (WriterOrder S) → WaitingOrder
  waiting_of None = Nothing
  waiting_of (Some (Settings settings)) = waiting.Window
  waiting_of (Some (Window id n)) = waiting.Window
  waiting_of (Some (Goaway last cause)) = waiting.Goaway
  waiting_of (Some _) = Other

  -- the order can't make a window of the peer's overflow
  abbrev pub TakesNoWindow : WriterOrder S → Type 0
  TakesNoWindow order = (id : ℕ) → Concerns (PeerWindow id) order → ⊥

  -- an order was set aside to which the writer's answer won't be a GOAWAY of its own
  abbrev pub WaitsWithoutWindow : Inbox S → Type 0
  WaitsWithoutWindow inbox =
      (order : WriterOrder S) × (inbox.set_aside ≡ Some order) × TakesNoWindow order

-- whether an order is lost, or the answer to it
abbrev pub loses_by : {S : Type 0} → OrderOutcome S → Bool
loses_by Done = false
loses_by (Ended id) = false
loses_by (Unanswered id) = true
loses_by (HandedBack control) = true
