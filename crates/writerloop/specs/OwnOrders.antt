-- The orders that a writer makes by itself, where a window of the peer's overflows (RFC 9113,
-- sections 6.9.1 and 6.9.2), or its core ran out of memory.
use Rattle.reasons.specs.declared.Reason.TheVariants as reason
use Rattle.std.specs.Prelude.{◌≡◌, ◌≢◌, ℕ, ◌==◌, Bool, true, false, List, [], ◌∷◌, if◌then◌else◌}
use Rattle.h2frame.specs.declared.error_code.ErrorCode.TheVariants.{FlowControlError}
use Rattle.outwriter.specs.declared.control.WriterOrder.{WriterOrder}
use Rattle.outwriter.specs.declared.control.WriterOrder.TheVariants.{Reset, Goaway}
use Rattle.outwriter.specs.declared.control.OutFault.TheVariants.{PeerWindow}
use Rattle.outwriter.specs.Frames.{goaway_frame}
use Rattle.outwriter.specs.RunState.{Blames, Concerns, HasRoom}
use Rattle.outwriter.specs.Steps.{Order, Step, Taken, Written}
use Rattle.writerloop.specs.declared.standing.Standing.{Standing}
use Rattle.writerloop.specs.declared.standing.Standing.TheVariants.{Going}
use Rattle.writerloop.specs.declared.order_outcome.OrderOutcome.{OrderOutcome}
use Rattle.writerloop.specs.declared.order_outcome.OrderOutcome.TheVariants.{
  Done,
  Ended,
  Unanswered,
  HandedBack,
}

-- the order that ends a stream, or the connection as stream 0, with FLOW_CONTROL_ERROR
abbrev pub own_control : {S : Type 0} → ℕ → ℕ → WriterOrder S
own_control last id = if id == 0 then Goaway last reason.Window else Reset id FlowControlError true

abbrev pub own_order : ℕ → ℕ → Order
own_order last id = own_control last id

-- The last word of a writer whose core ran out of memory, if it is said: the order for GOAWAY with
-- INTERNAL_ERROR, and then that frame.
abbrev pub parting : ℕ → Bool → List Step
parting last true =
    Written (goaway_frame last reason.Memory) ∷ Taken (Goaway last reason.Memory) ∷ []
parting last false = []

module _ {S : Type 0} where
  -- the steps that an order leads to, the latest first
  abbrev pub steps_of : Order → ℕ → OrderOutcome S → List Step
  steps_of order last Done = Taken order ∷ []
  steps_of order last (Ended id) = Taken (own_order last id) ∷ Taken order ∷ []
  steps_of order last (Unanswered id) = Taken order ∷ []
  steps_of order last (HandedBack control) = []

  -- why the writer answered so, after this run: the order would make a window larger than 2^31 - 1
  -- bytes, or there is room for its credit
  abbrev pub Blamed : OrderOutcome S → WriterOrder S → List Step → Type 0
  Blamed Done control run = HasRoom control run
  Blamed (Ended id) control run =
      Concerns (PeerWindow id) control × Blames (PeerWindow id) control run
  Blamed (Unanswered id) control run =
      Concerns (PeerWindow id) control × Blames (PeerWindow id) control run
  Blamed (HandedBack back) control run = back ≡ control

  -- only an order that gives credit has a fault of the peer's, and what is handed back is the order
  abbrev pub IsOfOrder : OrderOutcome S → WriterOrder S → Type 0
  IsOfOrder Done control = Unit {0}
  IsOfOrder (Ended id) control = Concerns (PeerWindow id) control
  IsOfOrder (Unanswered id) control = Concerns (PeerWindow id) control
  IsOfOrder (HandedBack back) control = back ≡ control

  -- a writer that had no memory for its own order stops
  abbrev pub Stops : OrderOutcome S → Standing → Standing → Type 0
  Stops (Unanswered id) old new = new ≢ Going
  Stops _ old new = new ≡ old
