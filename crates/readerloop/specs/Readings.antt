-- What the steps that were heard make of the reading side of a connection, and what it decides of
-- each step.
use Rattle.reasons.specs.declared.Reason.TheVariants as reason
use Rattle.std.specs.Prelude.{
  ◌≡◌,
  ◌<◌,
  ℕ,
  Bool,
  true,
  false,
  List,
  [],
  ◌∷◌,
  ◌++◌,
  All,
  length,
  min,
  Option,
  None,
  Some,
}
use Rattle.account.specs.declared.call.OutItem.{OutItem}
use Rattle.limits.specs.declared.TheConstants.{MAX_STREAMS}
use Rattle.callparts.specs.declared.order.OpeningCall.{OpeningCall}
use Rattle.callparts.specs.declared.order.ReturningCall.{ReturningCall}
use Rattle.callparts.specs.declared.work.Request.{Request}
use Rattle.callparts.specs.Blocks.{has_room}
use Rattle.callparts.specs.Numbers.{request_at}
use Rattle.callparts.specs.declared.register.Naming.{Ghosts}
use Rattle.callparts.specs.declared.report.Ending.{Ending}
use Rattle.connbook.specs.declared.answers.AdmitFault.TheVariants.{Draining}
use Rattle.connbook.specs.declared.answers.Receipt.{Receipt}
use Rattle.connbook.specs.declared.answers.Receipt.TheVariants.{Feed, Discard, CallWindow, Overrun}
use Rattle.h2frame.specs.declared.error_code.ErrorCode.TheVariants.{NoError}
use Rattle.handlers.specs.declared.step.MethodStep.{MethodStep as Answer}
use Rattle.outwriter.specs.declared.control.WriterOrder.{WriterOrder}
use Rattle.outwriter.specs.declared.control.WriterOrder.TheVariants.{Open, Goaway}
use Rattle.outwriter.specs.Steps.{Order, order_of}
use Rattle.readerloop.specs.declared.decision.HalfToShut.{HalfToShut}
use Rattle.readerloop.specs.declared.decision.Decision.{Decision}
use Rattle.readerloop.specs.declared.reading.Reading.{Reading}
use Rattle.lane.specs.Ring.{out_name, taken}
use Rattle.readerloop.specs.Calls.{HasReturned, SentItems, carried_in}
use Rattle.readerloop.specs.Concerns.{Concerns}
use Rattle.readerloop.specs.Kept.{Keeps, Kept}
use Rattle.readerloop.specs.Orders.{
  IsDue,
  begun,
  ends_at,
  named,
  named_with,
  orders_at,
}
use Rattle.readerloop.specs.Steps.{
  Fate,
  Lacking,
  Missed,
  Received,
  ShutAs,
  Step,
  TurnedAway,
  Unknown,
  WasTold,
  closing_at,
  is_draining,
}
use Rattle.session.specs.declared.event.InEvent.TheVariants.{PeerGoaway}

-- ---- what is decided

abbrev pub goaway_in : Option ℕ → List Order
goaway_in None = []
goaway_in (Some last) = Goaway last (reason.Code NoError) ∷ []

abbrev pub order_in : {S : Type 0} → Option (WriterOrder S) → List Order
order_in None = []
order_in (Some order) = order_of order ∷ []

-- what became of a piece that was to be fed: it was, or its lane refused it, or there was no memory
-- for it
abbrev pub fate_of_feed : {S : Type 0} → Option (WriterOrder S) → Option Ending → Fate
fate_of_feed None ends = Received Feed
fate_of_feed (Some order) None = Missed
fate_of_feed (Some order) (Some ending) = Lacking

abbrev pub fate_of : {S : Type 0} → Receipt → Option (WriterOrder S) → Option Ending → Fate
fate_of Feed order ends = fate_of_feed order ends
fate_of Discard order ends = Received Discard
fate_of CallWindow order ends = Received CallWindow
fate_of Overrun order ends = Received Overrun

-- a piece is missed, or lacks memory, only where it was to be fed
abbrev pub MayMiss : ℕ → List ℕ → Fate → List Step → Type 0
MayMiss id piece Missed told = IsDue id piece told
MayMiss id piece Lacking told = IsDue id piece told
MayMiss id piece _ told = Unit {0}

-- why the lock isn't asked to admit a call that begins: the server drains, or else its path names
-- no method
abbrev pub refused_by : Bool → Fate
refused_by true = TurnedAway Draining
refused_by false = Unknown

-- what became of an event, unless there was no memory for what it leads to
abbrev pub unless_ended : Option Ending → Fate → Fate
unless_ended None fate = fate
unless_ended (Some ending) fate = Lacking

-- ---- by what was heard

module _ {J : Type 0} {book : Ghosts J} where
  abbrev pub orders_in : Decision J book → List Order
  orders_in decided = goaway_in decided.goaway ++ order_in decided.order

  -- The order opens the stream of this request, and its sender has the call's number in the
  -- register.
  abbrev pub Opens : Request → WriterOrder (OpeningCall J book) → Type 0
  Opens request (Open id opening) =
      (id ≡ request.id)
      × (request_at opening.sending.value.number.seen.log opening.sending.value.number.value
      ≡ Some request)
  Opens request _ = ⊥

module _ {J M : Type 0} {book : Ghosts J} where
  -- a GOAWAY names this stream, and these streams were begun, the latest first
  pub record Counts (last : ℕ) (ids : List ℕ) (reading : Reading J M book) : Type 0 where
    pub last_is : reading.last ≡ last
    pub count : reading.begun ≡ min MAX_STREAMS (length ids)

  -- a call of this stream may be admitted: its id is above those before it, there is room for its
  -- account, and the server doesn't drain
  abbrev pub IsNext : ℕ → Reading J M book → Type 0
  IsNext id reading =
      (reading.calls.last < id)
      × (has_room reading.calls.accounts.count reading.calls.accounts.last ≡ true)
      × (reading.is_draining ≡ false)

  abbrev pub KeepsNext : Reading J M book → Reading J M book → Type 0
  KeepsNext old new = (id : ℕ) → IsNext id old → IsNext id new

  -- all but the calls, the workers and the register is unchanged
  pub record HasSameRest (old new : Reading J M book) : Type 0 where
    pub draining : new.is_draining ≡ old.is_draining
    pub last : new.last ≡ old.last
    pub begun : new.begun ≡ old.begun
    pub goaway : new.peer_goaway ≡ old.peer_goaway
    pub home : new.home ≡ old.home

  module _ (known : ℕ → List (List ℕ) → Bool → Answer → Type 0) (names : List ℕ → ℕ → Type 0)
      (carries : ℕ → List OutItem → Type 0) where
    -- These steps led to the reading side. It takes the peer as one that opens no more streams only
    -- after its GOAWAY.
    pub record Reads (told : List Step) (reading : Reading J M book) : Type 0 where
      pub calls : Kept known names carries told reading.calls
      pub drains : reading.is_draining ≡ is_draining told
      pub counts : Counts (named told) (begun told) reading
      pub goaway : reading.peer_goaway ≡ true → WasTold PeerGoaway told

    -- These steps led to it, and with this step they do once the half is shut as the decision says.
    pub record Awaits (told : List Step) (step : Step) (cut : HalfToShut)
        (reading : Reading J M book) : Type 0 where
      pub calls : Kept known names carries told reading.calls
      pub drains : reading.is_draining ≡ is_draining told
      pub counts : Counts (named (step ∷ told)) (begun (step ∷ told)) reading
      pub goaway : reading.peer_goaway ≡ true → WasTold PeerGoaway told
      pub concerns : Concerns cut.id step
      pub closes : closing_at cut.id step ≡ Some (ShutAs cut.kind)

    -- This step begins a stream, and the calls are what the step makes of them.
    pub record Begins (told : List Step) (step : Step) (id : ℕ)
        (reading : Reading J M book) : Type 0 where
      pub calls : Kept known names carries (step ∷ told) reading.calls
      pub drains : reading.is_draining ≡ is_draining told
      pub counts : Counts (named told) (begun told) reading
      pub goaway : reading.peer_goaway ≡ true → WasTold PeerGoaway told
      pub begins : begun (step ∷ told) ≡ id ∷ begun told
      pub names_on : named (step ∷ told) ≡ named_with id (is_draining told) (named told)
      pub goes_on : is_draining (step ∷ told) ≡ is_draining told

    abbrev pub Stands : List Step → Step → Option HalfToShut → Reading J M book → Type 0
    Stands told step None reading = Reads (step ∷ told) reading
    Stands told step (Some cut) reading = Awaits told step cut reading

    -- The decision is what a step leads to after these: its orders, and how the connection ends, if
    -- it does.
    pub record Decides (told : List Step) (step : Step) (decided : Decision J book)
        (reading : Reading J M book) : Type 0 where
      pub orders : orders_in decided ≡ orders_at told step
      pub ends : decided.ends ≡ ends_at step
      pub stands : Stands told step decided.to_shut reading

  module _ (known : ℕ → List (List ℕ) → Bool → Answer → Type 0) (names : List ℕ → ℕ → Type 0) where
    -- whatever steps led to it before, and whatever is carried
    abbrev pub DecidesOn : Step → Decision J book → Reading J M book → Reading J M book → Type 0
    DecidesOn step decided old new =
        (sent : List SentItems) (told : List Step) → Reads known names (carried_in sent) told old
        → Decides known names (carried_in sent) told step decided new

    -- the steps that led to it before lead to it after: with this step, or alone
    abbrev pub ReadsOn : Step → Reading J M book → Reading J M book → Type 0
    ReadsOn step old new =
        (sent : List SentItems) (told : List Step) → Reads known names (carried_in sent) told old
        → Reads known names (carried_in sent) (step ∷ told) new

    abbrev pub Stays : Reading J M book → Reading J M book → Type 0
    Stays old new =
        (sent : List SentItems) (told : List Step) → Reads known names (carried_in sent) told old
        → Reads known names (carried_in sent) told new

    -- More calls came back from workers, and more senders, which got what is carried. All but the
    -- calls, the workers and the ring of senders is unchanged, and what may be admitted is too.
    pub record HasCollected (old new : Reading J M book) : Type 0 where
      pub more : List (ReturningCall J book)
      pub took : taken new.home ≡ taken old.home ++ more
      pub name : out_name new.home ≡ out_name old.home
      pub keeps : (sent : List SentItems)
          → All (λ returning. HasReturned (carried_in sent) returning.sending.value) more
          → Keeps known names (carried_in sent) old.calls new.calls
      pub accounts : new.calls.accounts ≡ old.calls.accounts
      pub above : new.calls.last ≡ old.calls.last
      pub draining : new.is_draining ≡ old.is_draining
      pub last : new.last ≡ old.last
      pub begun : new.begun ≡ old.begun
      pub goaway : new.peer_goaway ≡ old.peer_goaway

    -- the steps that led to it before still do once more came back, where the senders got what is
    -- carried
    abbrev pub CollectsTo : Reading J M book → Reading J M book → Type 0
    CollectsTo old new =
        (more : List (ReturningCall J book)) × (taken new.home ≡ taken old.home ++ more)
        × ((sent : List SentItems) (told : List Step)
        → All (λ returning. HasReturned (carried_in sent) returning.sending.value) more
        → Reads known names (carried_in sent) told old
        → Reads known names (carried_in sent) told new)
