-- What the reading thread has heard and ordered.
use mathlib.Core.List.{IsPrefix}
use Rattle.std.specs.Prelude.{
  ◌≡◌,
  ◌≢◌,
  ◌⊎◌,
  ℕ,
  Bool,
  true,
  false,
  All,
  IfSome,
  List,
  [],
  ◌∷◌,
  ◌++◌,
  Option,
  None,
  Some,
}
use Rattle.lane.specs.Ring.{out_name, taken}
use Rattle.callparts.specs.declared.order.ReturningCall.{ReturningCall}
use Rattle.callparts.specs.declared.register.Naming.{Ghosts as Naming}
use Rattle.callparts.specs.declared.report.Ending.{Ending}
use Rattle.callparts.specs.declared.report.Ending.TheVariants.{
  Drained,
  InputEnded as InputOver,
  PeerGoaway,
  ProtocolError,
  WriteFailed,
}
use Rattle.h2frame.specs.declared.error_code.ErrorCode.{ErrorCode}
use Rattle.handlers.specs.declared.step.MethodStep.{MethodStep as Answer}
use Rattle.outwriter.specs.Steps.{Order}
use Rattle.outwriter.specs.declared.control.WriterOrder.TheVariants.{InputEnded, Close}
use Rattle.session.specs.declared.event.InEvent.{InEvent}
use Rattle.session.specs.declared.event.InEvent.TheVariants as events
use Rattle.session.specs.Events.{Events}
use Rattle.readerloop.specs.declared.decision.Decision.{Decision}
use Rattle.readerloop.specs.declared.reading.Reading.{Reading}
use Rattle.readerloop.specs.Calls.{HasReturned, SentItems, carried_in}
use Rattle.readerloop.specs.Orders.{ends_at, orders_by}
use Rattle.readerloop.specs.Readings.{Decides, Reads}
use Rattle.readerloop.specs.Reports.{AreCalm, AreHeard, is_heard_out}
use Rattle.readerloop.specs.Steps.{Step, WasTold, events_of, is_draining}
use Rattle.connection.specs.declared.orders.Orders.{Orders}
use Rattle.connection.specs.declared.orders.Route.{Ghosts}
use Rattle.connection.specs.Limits.{AreFounded, AreGoing, AreJustified, Covers, Tally}
use Rattle.connection.specs.Puts.{Closed, IsOwn, Ordered}

-- one of these steps ended the connection so
abbrev pub IsEndedBy : Ending → List Step → Type 0
IsEndedBy ending [] = ⊥
IsEndedBy ending (step ∷ before) = (ends_at step ≡ Some ending) ⊎ IsEndedBy ending before

-- The connection ended with its input, before or after a GOAWAY of the peer.
abbrev pub IsOfInput : Ending → Type 0
IsOfInput end = (end ≡ InputOver) ⊎ (end ≡ PeerGoaway)

-- A beginning of these orders was put, and then that no more come.
pub record HasPut (all put : List Order) : Type 0 where
  pub front : List Order
  pub begins : IsPrefix front all
  pub closed : put ≡ front ++ Close ∷ []

-- ---- senders that came home

module _ {J : Type 0} {book : Naming J} where
  -- each of these senders got what is carried of its call
  abbrev pub AreCarried : List SentItems → List (ReturningCall J book) → Type 0
  AreCarried sent returnings =
      All (λ returning. HasReturned (carried_in sent) returning.sending.value) returnings

module _ {J M : Type 0} {book : Naming J} where
  -- more senders came back, through the same ring
  pub record Grows (old new : Reading J M book) : Type 0 where
    pub name : out_name new.home ≡ out_name old.home
    pub more : List (ReturningCall J book)
    pub took : taken new.home ≡ taken old.home ++ more

module _ {J M : Type 0} {book : Naming J} (known : ℕ → List (List ℕ) → Bool → Answer → Type 0)
    (names : List ℕ → ℕ → Type 0) where
  -- Nothing was heard: the steps that led to the reading side before still do, with the senders
  -- that came back meanwhile, where they got what is carried.
  pub record Collects (old new : Reading J M book) : Type 0 where
    pub grows : Grows old new
    pub keeps : (sent : List SentItems) (told : List Step) → AreCarried sent (taken new.home)
        → Reads known names (carried_in sent) told old
        → Reads known names (carried_in sent) told new

module _ {A B C J M N : Type 0} {book : Naming J} {route : Ghosts N}
    (known : ℕ → List (List ℕ) → Bool → Answer → Type 0) (names : List ℕ → ℕ → Type 0) where
  -- These steps led to the reading side. What was ordered is what they lead to, only what may be
  -- refused was, and the input goes on.
  pub record KeptFor (sent : List SentItems) (told : List Step) (reading : Reading J M book)
      (orders : Orders A B C J N book route) : Type 0 where
    pub reads : Reads known names (carried_in sent) told reading
    pub ordered : Ordered (orders_by told) orders
    pub justified : AreJustified told
    pub founded : AreFounded names orders.has_stopped told
    pub going : AreGoing told

  -- what was decided of a step is done
  pub record Acts (decided : Decision J book) (reading : Reading J M book)
      (orders : Orders A B C J N book route) (reading_new : Reading J M book)
      (orders_new : Orders A B C J N book route) : Type 0 where
    pub home : reading_new.home ≡ reading.home
    pub reads : (sent : List SentItems) (told : List Step) (step : Step)
        → Decides known names (carried_in sent) told step decided reading
        → Reads known names (carried_in sent) (step ∷ told) reading_new
    pub ordered : (sent : List SentItems) (told : List Step) (step : Step)
        → Decides known names (carried_in sent) told step decided reading
        → IfSome decided.order IsOwn
        → Ordered (orders_by told) orders → Ordered (orders_by (step ∷ told)) orders_new
    pub stops : orders.has_stopped ≡ true → orders_new.has_stopped ≡ true

  -- These steps are no events, and none ends the connection. They cut calls only where the input
  -- has ended, and the server drains only where it has not.
  pub record Cuts (ended : Bool) (sent : List SentItems) (told cuts : List Step)
      (reading_new : Reading J M book)
      (orders orders_new : Orders A B C J N book route) : Type 0 where
    pub silent : events_of cuts ≡ []
    pub calm : AreCalm cuts
    pub going : ended ≡ false → AreGoing cuts
    pub undrained : ended ≡ true → is_draining cuts ≡ false
    pub reads : Reads known names (carried_in sent) (cuts ++ told) reading_new
    pub ordered : Ordered (orders_by told) orders → Ordered (orders_by (cuts ++ told)) orders_new
    pub stops : orders.has_stopped ≡ true → orders_new.has_stopped ≡ true

  abbrev pub CutsSome : Bool → Reading J M book → Orders A B C J N book route → Reading J M book
      → Orders A B C J N book route → Type 0
  CutsSome ended reading orders reading_new orders_new =
      (reading_new.home ≡ reading.home)
      × ((sent : List SentItems) (told : List Step)
      → Reads known names (carried_in sent) told reading
      → (cuts : List Step) × Cuts ended sent told cuts reading_new orders orders_new)

  -- Whatever steps were heard before, some steps with these events follow them. They have all of
  -- the events, and none ends the connection, unless it ended.
  pub record Tells (sent : List SentItems) (given : List InEvent) (end : Option Ending)
      (told more : List Step) (reading : Reading J M book)
      (orders : Orders A B C J N book route) : Type 0 where
    pub front : IsPrefix (events_of more) given
    pub all : end ≡ None → events_of more ≡ given
    pub calm : end ≡ None → AreCalm more
    pub ended : IfSome end (λ ending. IsEndedBy ending more)
    pub kept : KeptFor sent (more ++ told) reading orders

  abbrev pub ReadsTo : List InEvent → Option Ending → Reading J M book → Orders A B C J N book route
      → Reading J M book → Orders A B C J N book route → Type 0
  ReadsTo given end reading orders reading_new orders_new =
      Grows reading reading_new
      × ((sent : List SentItems) → AreCarried sent (taken reading_new.home) → (told : List Step)
      → KeptFor sent told reading orders
      → (more : List Step) × Tells sent given end told more reading_new orders_new)

  -- So the reader goes on (`Tells`), and it has counted no more than the steps have, before and
  -- after.
  abbrev pub ReadsWith : Tally → Tally → List InEvent → Option Ending → Reading J M book
      → Orders A B C J N book route → Reading J M book → Orders A B C J N book route → Type 0
  ReadsWith tally tally_new given end reading orders reading_new orders_new =
      Grows reading reading_new
      × ((sent : List SentItems) → AreCarried sent (taken reading_new.home) → (told : List Step)
      → KeptFor sent told reading orders → Covers told tally
      → (more : List Step) × Tells sent given end told more reading_new orders_new
      × Covers (more ++ told) tally_new)

  -- These steps were heard of the bytes that came. Their events are the first of the bytes' events;
  -- where all that came was heard they are all of them, and no step ended the connection. What was
  -- ordered is what they lead to. The ending has its cause among them.
  pub record HasRead (sent : List SentItems) (end : Ending) (came : List ℕ) (told : List Step)
      (reading : Reading J M book) (orders : Orders A B C J N book route) : Type 0 where
    pub reads : Reads known names (carried_in sent) told reading
    pub justified : AreJustified told
    pub founded : AreFounded names orders.has_stopped told
    pub going : AreGoing told
    pub heard : AreHeard end came (events_of told)
    pub some : (bytes : List ℕ) × (given : List InEvent) × Events bytes given
        × IsPrefix (events_of told) given
    pub calm : is_heard_out end ≡ true → AreCalm told
    pub ordered : Ordered (orders_by told) orders
    pub goaway : end ≡ PeerGoaway → WasTold events.PeerGoaway told
    pub drained : end ≡ Drained → is_draining told ≡ true
    pub undrained : IsOfInput end → is_draining told ≡ false
    pub failed : (code : ErrorCode) → end ≡ ProtocolError code → IsEndedBy (ProtocolError code) told
    pub unbroken : end ≢ WriteFailed

  -- Where the senders that came back got what is carried, some steps led to the reading side, and
  -- what was ordered is what they lead to.
  abbrev pub Hears : Reading J M book → Orders A B C J N book route → Type 0
  Hears reading orders =
      (sent : List SentItems) → AreCarried sent (taken reading.home)
      → (told : List Step) × Reads known names (carried_in sent) told reading
      × Ordered (orders_by told) orders

  -- The end of the reading: after these steps some more cut all calls, and the last orders are that
  -- the input has ended and that no more orders come.
  pub record HasEnded (sent : List SentItems) (told cuts : List Step) (reading : Reading J M book)
      (orders orders_new : Orders A B C J N book route) : Type 0 where
    pub silent : events_of cuts ≡ []
    pub calm : AreCalm cuts
    pub undrained : is_draining cuts ≡ false
    pub reads : Reads known names (carried_in sent) (cuts ++ told) reading
    pub ordered : Ordered (orders_by told) orders
        → Closed (orders_by (cuts ++ told) ++ InputEnded ∷ []) orders_new
    pub stops : orders.has_stopped ≡ true → orders_new.has_stopped ≡ true
