-- What the writer of a connection wrote: the frames of a lawful run of its core, as far as they
-- went out.
use Rattle.std.specs.Prelude.{
  ◌≡◌,
  ◌≢◌,
  ◌⊎◌,
  ◌||◌,
  All,
  ℕ,
  Bool,
  true,
  false,
  List,
  [],
  ◌∷◌,
  ◌++◌,
  Option,
  None,
  Some,
  slice_get,
}
use Rattle.std.specs.List.{list_any}
use Rattle.account.specs.declared.call.OutItem.{OutItem}
use Rattle.lane.specs.declared.ring_lane.RingLane.{RingLane}
use Rattle.lane.specs.declared.ring_lane.RingLaneIn.{RingLaneIn}
use Rattle.lane.specs.declared.ring_lane.RingLaneOut.{RingLaneOut}
use Rattle.lane.specs.declared.ring_lane.RingLaneShut.{RingLaneShut}
use Rattle.lane.specs.Ring.{in_name, out_name, put_in}
use Rattle.lane.specs.RingLane.{ahead, got}
use Rattle.h2frame.specs.declared.error_code.ErrorCode.{ErrorCode}
use Rattle.h2frame.specs.declared.error_code.ErrorCode.TheVariants.{FlowControlError}
use Rattle.outwriter.specs.declared.control.WriterOrder.{WriterOrder}
use Rattle.outwriter.specs.Calls.{TellEnds, TellOthers, is_closed}
use Rattle.outwriter.specs.Cores.{calls}
use Rattle.outwriter.specs.Credit.{granted}
use Rattle.outwriter.specs.Drains.{has_failed}
use Rattle.outwriter.specs.Polls.{coming}
use Rattle.outwriter.specs.Runs.{IsLawful}
use Rattle.outwriter.specs.RunState.{IsAnswered}
use Rattle.outwriter.specs.Steps.{Step, Order, frames_of, order_of}
use Rattle.callparts.specs.declared.order.OpeningCall.{OpeningCall}
use Rattle.callparts.specs.declared.order.ReturningCall.{ReturningCall}
use Rattle.callparts.specs.declared.register.Naming.{Ghosts}
use Rattle.device.specs.declared.conn.ConnWrite.{Ghosts as ConnGhosts}
use Rattle.callparts.specs.declared.report.Ending.{Ending}
use Rattle.callparts.specs.declared.report.Ending.TheVariants.{
  OutOfMemory,
  ProtocolError,
  WriteFailed,
}
use Rattle.callparts.specs.Lanes.{OutSender}
use Rattle.writerloop.specs.declared.fill_end.FillEnd.{FillEnd}
use Rattle.writerloop.specs.declared.fill_end.FillEnd.TheVariants.{Full, Idle, Over, Stopped}
use Rattle.writerloop.specs.declared.frames.Frames.{Frames}
use Rattle.writerloop.specs.declared.standing.Standing.TheVariants.{Going, Broken}
use Rattle.writerloop.specs.declared.steps.AfterWrite.{AfterWrite}
use Rattle.writerloop.specs.declared.steps.AfterWrite.TheVariants as rests
use Rattle.writerloop.specs.declared.senders.Senders.{Senders}
use Rattle.writerloop.specs.declared.writing.Writing.{Writing}
use Rattle.writerloop.specs.Blamed.{WouldOverflow, blames_by, blames_in}
use Rattle.writerloop.specs.Done.{HasFailed, HaveNoMore, IsDone, TellBack}
use Rattle.writerloop.specs.Orders.{HasGiven, Obeys, closes, ends_input, order_in, orders_of}
use Rattle.writerloop.specs.Rest.{rest_calls}
use Rattle.writerloop.specs.Sent.{AreApart, HasAll, IsTold, handed_calls, ids_of}
use Rattle.writerloop.specs.Spelled.{IsFront, IsAll}
use Rattle.writerloop.specs.Wrote.{Wrote}

-- No more orders come, and the frames have all that the orders ask for: each SETTINGS and each PING
-- is acknowledged, each header block is whole, and the end of each stream that was called off is
-- written, unless the last frame is a GOAWAY with an error. Each sender that was given back had
-- ended, or was reset.
pub record IsOver (run : List Step) : Type 0 where
  pub closed : is_closed run ≡ true
  pub answered : IsAnswered run
  pub ended : HasFailed run ⊎ TellEnds run
  pub back : TellBack run

-- what writes the frames of a connection whose calls are answered over rings
abbrev pub FrameWriter : Type 0 → Type 0
FrameWriter W =
    Frames (RingLane OutItem) W (RingLaneIn OutItem) (RingLaneOut OutItem) (RingLaneShut OutItem)

module _ {J W : Type 0} {naming : Ghosts J} {conn : ConnGhosts W} where
  -- the senders that the core has, with the streams of their calls
  abbrev pub core_of : Writing J W naming conn → List (ℕ × OutSender)
  core_of writer = writer.frames.core.sending.senders.items

  -- the stream of the call at this place
  abbrev pub stream_at : ℕ → Writing J W naming conn → Option ℕ
  stream_at n writer = slice_get (ids_of writer.sends.calls.items) n

  -- No sender of these orders' calls is lost. The writer blames its peer for none but by its run;
  -- and where it blames it for none, no GOAWAY for that was taken, unless one was ordered.
  pub record Holds (orders : List (WriterOrder (OpeningCall J naming))) (run : List Step)
      (writer : Writing J W naming conn) : Type 0 where
    pub senders :
        HasAll orders run writer.sends.calls.items (core_of writer) (put_in writer.sends.home)
    pub blamed : writer.blames ≡ true → WouldOverflow 0 run
    pub unblamed : writer.blames ≡ false → blames_in run ≡ true
        → list_any blames_by (orders_of orders) ≡ true

  -- the writer knows whether these orders end the input, and whether they have a Close
  pub record Knows (orders : List Order) (writer : Writing J W naming conn) : Type 0 where
    pub input : writer.inbox.has_lost ≡ false → writer.input_ended ≡ list_any ends_input orders
    pub closed : writer.closed ≡ list_any closes orders

  -- the run is over, and each call whose sender the core has is done, with what was found ahead of
  -- the sender
  pub record IsAtEnd (run : List Step) (writer : Writing J W naming conn) : Type 0 where
    pub over : IsOver run
    pub lives : writer.frames.core.is_dead ≡ false
    pub done : HaveNoMore got (coming got ahead) run (core_of writer)

  -- what the writer knows changes only by what this order ends
  pub record Heeds (order : Order) (old new : Writing J W naming conn) : Type 0 where
    pub input : new.input_ended ≡ (ends_input order || old.input_ended)
    pub closed : new.closed ≡ (closes order || old.closed)

module _ {J W : Type 0} {naming : Ghosts J} {conn : ConnGhosts W} (contents : W → Option (List ℕ))
    (failed : W → Bool) where
  -- Some run led to the writer, whose device had something before, and granted this much credit on
  -- the connection. It obeyed these orders, unless some were lost, and no call's sender is lost.
  abbrev pub Runs : Bool → List (WriterOrder (OpeningCall J naming)) → Option (List ℕ) → ℕ
      → Writing J W naming conn → Type 0
  Runs lost orders before credit writer =
      (run : List Step) × Wrote got contents failed before run writer.frames
      × Obeys lost (orders_of orders) run × Holds orders run writer
      × (granted 0 run ≡ credit)

  -- some run led to the writer so, and it is at its end, unless the writer makes no more frames
  abbrev pub Ends : Bool → List (WriterOrder (OpeningCall J naming)) → Option (List ℕ) → ℕ
      → Writing J W naming conn → Type 0
  Ends lost orders before credit writer =
      (run : List Step) × Wrote got contents failed before run writer.frames
      × Obeys lost (orders_of orders) run × Holds orders run writer
      × (granted 0 run ≡ credit) × (writer.frames.standing ≡ Going → IsAtEnd run writer)

  -- the run goes on, and where it was over it stays over
  pub record StaysOn (lost loses : Bool) (old new : Writing J W naming conn) : Type 0 where
    pub runs : (orders : List (WriterOrder (OpeningCall J naming)))
        (before : Option (List ℕ)) (credit : ℕ)
        → Runs lost orders before credit old → Runs loses orders before credit new
    pub ends : (orders : List (WriterOrder (OpeningCall J naming)))
        (before : Option (List ℕ)) (credit : ℕ)
        → Ends lost orders before credit old → Ends loses orders before credit new

  -- the run leads to its end
  abbrev pub RunsOut : Writing J W naming conn → Writing J W naming conn → Type 0
  RunsOut old new =
      (lost : Bool) (orders : List (WriterOrder (OpeningCall J naming)))
      (before : Option (List ℕ)) (credit : ℕ)
      → Runs lost orders before credit old → Ends lost orders before credit new

  -- The writer takes the order, which opens no call, or loses it. None was lost before.
  abbrev pub Takes : Order → Writing J W naming conn → Writing J W naming conn → Type 0
  Takes order old new =
      (orders : List (WriterOrder (OpeningCall J naming)))
      (control : WriterOrder (OpeningCall J naming))
      (before : Option (List ℕ)) (credit : ℕ)
      → order_of control ≡ order
      → Runs false orders before credit old
      → Runs new.inbox.has_lost (orders ++ control ∷ []) before credit new

  -- The writer begins a call with the order's sender. No order was lost before.
  abbrev pub Begins : WriterOrder (OpeningCall J naming) → Writing J W naming conn
      → Writing J W naming conn → Type 0
  Begins order old new =
      (orders : List (WriterOrder (OpeningCall J naming))) (before : Option (List ℕ)) (credit : ℕ)
      → Runs false orders before credit old
      → Runs false (orders ++ order ∷ []) before credit new

  -- orders were lost, and this one is too, or it is a Close; the sender of a call that it opens is
  -- handed back
  abbrev pub PassesOver : WriterOrder (OpeningCall J naming) → Writing J W naming conn
      → Writing J W naming conn → Type 0
  PassesOver order old new =
      (orders : List (WriterOrder (OpeningCall J naming))) (before : Option (List ℕ)) (credit : ℕ)
      → Runs true orders before credit old
      → Runs true (orders ++ order ∷ []) before credit new

  -- orders were lost
  abbrev pub Parts : Writing J W naming conn → Writing J W naming conn → Type 0
  Parts old new =
      (orders : List (WriterOrder (OpeningCall J naming))) (before : Option (List ℕ)) (credit : ℕ)
      → Runs true orders before credit old → Runs true orders before credit new

  -- ---- with the inbox

  -- Some run led to the writer, by the orders that its inbox has given, and granted this much
  -- credit; the writer knows what these orders end.
  abbrev pub Led : Option (List ℕ) → ℕ → Writing J W naming conn → Type 0
  Led before credit writer =
      (given : List (WriterOrder (OpeningCall J naming))) × HasGiven given writer.inbox
      × Runs writer.inbox.has_lost given before credit writer
      × Knows (orders_of given) writer

  abbrev pub LedOut : Option (List ℕ) → ℕ → Writing J W naming conn → Type 0
  LedOut before credit writer =
      (given : List (WriterOrder (OpeningCall J naming))) × HasGiven given writer.inbox
      × Ends writer.inbox.has_lost given before credit writer
      × Knows (orders_of given) writer

  -- a run leads to the writer after, if one led to it before; the orders come from the same ring
  pub record LeadsOn (old new : Writing J W naming conn) : Type 0 where
    pub name : out_name new.inbox.ring ≡ out_name old.inbox.ring
    pub way : in_name new.sends.home ≡ in_name old.sends.home
    pub on : (before : Option (List ℕ)) (credit : ℕ) → Led before credit old → Led before credit new

  -- a run that granted `has` leads to the writer after, if one that granted `had` led to it before
  pub record LeadsTo (had : ℕ) (old : Writing J W naming conn) (has : ℕ)
      (new : Writing J W naming conn) : Type 0 where
    pub name : out_name new.inbox.ring ≡ out_name old.inbox.ring
    pub way : in_name new.sends.home ≡ in_name old.sends.home
    pub on : (before : Option (List ℕ)) → Led before had old → Led before has new

  -- a run that granted this much leads to its end
  abbrev pub LeadsOutTo : ℕ → Writing J W naming conn → ℕ → Writing J W naming conn → Type 0
  LeadsOutTo had old has new =
      (before : Option (List ℕ)) → Led before had old → LedOut before has new

  -- the run leads to its end
  abbrev pub LeadsOut : Writing J W naming conn → Writing J W naming conn → Type 0
  LeadsOut old new =
      (before : Option (List ℕ)) (credit : ℕ) → Led before credit old → LedOut before credit new

  -- a run leads on, and where it was at its end it stays there
  pub record Stays (old new : Writing J W naming conn) : Type 0 where
    pub leads : LeadsOn old new
    pub out : (before : Option (List ℕ)) (credit : ℕ) → LedOut before credit old
        → LedOut before credit new

-- What the owner does after a fill: it goes on at once where the buffer was full or was written to,
-- and waits where neither was. Where nothing is written any more, it waits for the orders that
-- still come.
abbrev pub rest_of : FillEnd → Bool → Bool → AfterWrite
rest_of Full is_silent closed = rests.None
rest_of Idle false closed = rests.None
rest_of Idle true closed = rests.Idle
rest_of Stopped is_silent false = rests.Stopped
rest_of Stopped is_silent true = rests.StoppedOver
rest_of Over is_silent closed = rests.Over

-- the writer's buffer is empty, unless a write failed
abbrev pub IsFlushed : {J W : Type 0} {naming : Ghosts J} {conn : ConnGhosts W}
    → Writing J W naming conn → Type 0
IsFlushed writer = writer.frames.standing ≢ Broken → writer.frames.buffer.items ≡ []

-- The device has a prefix of the bytes of a lawful run's frames (RFC 9113), after what it had
-- before. The run granted this much credit on the connection, and obeyed these orders. `ending` is
-- how the connection ended, as far as it is known, and `faultless` says that no GOAWAY had an
-- error.
pub record HasWritten {W : Type 0} (contents : W → Option (List ℕ)) (failed : W → Bool)
    (before : Option (List ℕ)) (credit : ℕ) (orders : List Order) (ending : Option Ending)
    (faultless : Bool) (device : W) : Type 0 where
  pub run : List Step
  pub lawful : IsLawful run
  pub credited : granted 0 run ≡ credit
  -- the run took a beginning of the orders; where memory didn't run out and no write failed, all of
  -- them
  pub some : Obeys true orders run
  pub each : ending ≢ Some OutOfMemory → ending ≢ Some WriteFailed → Obeys false orders run
  -- a stream that was never opened has no frame, a reset, or what it was refused with
  pub others : TellOthers run
  -- the connection ends by a failed write only where the device has that mark
  pub marked : ending ≡ Some WriteFailed → failed device ≡ true
  pub front : IsFront (frames_of run) before (contents device)
  -- where no write failed, all frames were written
  pub all : failed device ≡ false → IsAll (frames_of run) before (contents device)
  -- where memory didn't run out and the connection doesn't end by a failed write, the run is over
  pub over : ending ≢ Some OutOfMemory → ending ≢ Some WriteFailed → IsOver run
  -- no GOAWAY with an error was ordered, by either side
  pub sound : faultless ≡ true → has_failed run ≡ false

-- A device has that, by these orders, but for one that may be set aside still; and of each call
-- that they opened the sender was handed back, or is among the rest: no more was told of the call
-- than it got.
pub record HasSent {J W : Type 0} {naming : Ghosts J} (contents : W → Option (List ℕ))
    (failed : W → Bool) (before : Option (List ℕ)) (credit : ℕ)
    (orders : List (WriterOrder (OpeningCall J naming))) (rest : Senders J naming)
    (ending : Option Ending)
    (device : W) : Type 0 where
  pub given : List (WriterOrder (OpeningCall J naming))
  pub orders_are : orders ≡ given ++ order_in rest.aside
  pub written : HasWritten contents failed before credit (orders_of given) ending false device
  pub senders :
      HasAll given written.run rest.sends.calls.items rest.core.items (put_in rest.sends.home)
  pub told : AreApart orders
      → All (IsTold written.run) (rest_calls rest ++ handed_calls senders.handed)
  -- Where memory didn't run out and the connection doesn't end by a failed write, each of these
  -- calls is done, unless the connection has failed.
  pub done : ending ≢ Some OutOfMemory → ending ≢ Some WriteFailed → AreApart orders
      → HasFailed written.run
      ⊎ All (IsDone written.run) (rest_calls rest ++ handed_calls senders.handed)
  -- the connection ended with no error but for its own window, or for an initial size
  pub blames : (code : ErrorCode) → ending ≡ Some (ProtocolError code)
      → (code ≡ FlowControlError) × WouldOverflow 0 written.run
  -- where it ended since all was written, it told no such error, unless one was ordered
  pub unblamed : ending ≡ None → blames_in written.run ≡ true
      → list_any blames_by (orders_of given) ≡ true
