-- The stream that the writer ends by itself, or the connection as stream 0, since a window of the
-- peer's would be too large (RFC 9113, sections 6.9.1 and 6.9.2).
-- A run has the latest first.
use Rattle.reasons.specs.declared.Reason.TheVariants as reason
use Rattle.std.specs.Prelude.{◌≡◌, ◌||◌, ℕ, Bool, true, false, List, [], ◌∷◌, ◌++◌}
use Rattle.outwriter.specs.declared.control.WriterOrder.TheVariants.{Goaway}
use Rattle.outwriter.specs.declared.control.OutFault.TheVariants.{PeerWindow}
use Rattle.outwriter.specs.RunState.{Blames, Concerns}
use Rattle.outwriter.specs.Steps.{Order, Step, Taken, Granted, Written, Returned}

-- A control of the peer that was taken would make the stream's window larger than 2^31 - 1 bytes;
-- for stream 0 it is the connection's window, or by an initial size some stream's.
pub record WouldOverflow (id : ℕ) (run : List Step) : Type 0 where
  pub order : Order
  pub before : List Step
  pub later : List Step
  pub taken : run ≡ later ++ Taken order ∷ before
  pub concerns : Concerns (PeerWindow id) order
  pub blames : Blames (PeerWindow id) order before

-- the order ends the connection, since a window of the peer's would be too large
abbrev pub blames_by : Order → Bool
blames_by (Goaway last reason.Window) = true
blames_by _ = false

-- such an order was taken
abbrev pub blames_in : List Step → Bool
blames_in [] = false
blames_in (Taken order ∷ before) = blames_by order || blames_in before
blames_in (Granted id n ∷ before) = blames_in before
blames_in (Written frame ∷ before) = blames_in before
blames_in (Returned id items ∷ before) = blames_in before
