-- What a writer does, step by step.
-- A run has its latest step first.
use Rattle.std.specs.Prelude.{ℕ, List, [], ◌∷◌}
use Rattle.account.specs.declared.call.OutItem.{OutItem}
use Rattle.h2frame.specs.declared.frame.Frame.{Frame}
use Rattle.outwriter.specs.declared.control.WriterOrder.{WriterOrder}
use Rattle.outwriter.specs.declared.control.WriterOrder.TheVariants.{
  Settings,
  Ping,
  Probe,
  Window,
  Open,
  Refuse,
  Reset,
  Goaway,
  InputEnded,
  Close,
}
use Rattle.outwriter.specs.declared.control.OutFault.{OutFault}
use Rattle.outwriter.specs.declared.control.OutFault.TheVariants.{OutOfMemory, PeerWindow}

-- a control without the sender that an Open brings
abbrev pub Order : Type 0
Order = WriterOrder (Unit {0})

module _ {S : Type 0} where
  abbrev pub order_of : WriterOrder S → Order
  order_of (Settings settings) = Settings settings
  order_of (Ping bytes) = Ping bytes
  order_of (Probe bytes) = Probe bytes
  order_of (Window id increment) = Window id increment
  order_of (Open id sender) = Open id tt
  order_of (Refuse id fields) = Refuse id fields
  order_of (Reset id code written) = Reset id code written
  order_of (Goaway last reason) = Goaway last reason
  order_of InputEnded = InputEnded
  order_of Close = Close

  -- the numbers of the faults
  abbrev pub fault_code : OutFault S → ℕ
  fault_code (OutOfMemory control) = 1
  fault_code (PeerWindow id) = 2

-- A control is taken; credit is granted on a stream, or on the connection as stream 0; a frame is
-- written; or the sender of a call, which had given these items, is given back. A run is a list of
-- steps, the latest first.
pub data Step : Type 0 where
  Taken : Order → Step
  Granted : ℕ → ℕ → Step
  Written : Frame → Step
  Returned : ℕ → List OutItem → Step

-- the frames that a step wrote
abbrev pub frame_of_step : Step → List Frame
frame_of_step (Written frame) = frame ∷ []
frame_of_step _ = []

-- the frames of a run, the latest first
abbrev pub frames_of : List Step → List Frame
frames_of [] = []
frames_of (Written frame ∷ before) = frame ∷ frames_of before
frames_of (Taken order ∷ before) = frames_of before
frames_of (Granted id n ∷ before) = frames_of before
frames_of (Returned id items ∷ before) = frames_of before
