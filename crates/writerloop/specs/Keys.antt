-- Streams with the lanes of their calls.
use Rattle.std.specs.Prelude.{◌≡◌, ℕ, List, Option}
use Rattle.std.proofs.Props.{props}
use Rattle.lane.specs.RingLane.{LaneName}

pub Keys_set : (a b : List (ℕ × Option LaneName)) → IsProp (a ≡ b)
Keys_set a b = hlevel props
