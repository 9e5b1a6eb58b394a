-- What the register has at a number.
use Rattle.std.specs.Prelude.{◌≡◌, ℕ, List, Option, None, Some, slice_get, option_map}
use Rattle.std.proofs.Props.{props}
use Rattle.lane.specs.RingLane.{LaneName, in_name, out_name}
use Rattle.callparts.specs.declared.work.Request.{Request}
use Rattle.callparts.specs.declared.work.Work.{Work}

-- what the call's client asked for
abbrev pub request_at : List Work → ℕ → Option Request
request_at log number = option_map (λ work. work.request) (slice_get log number)

-- the lane of what the call's client sends
abbrev pub in_lane_at : List Work → ℕ → Option LaneName
in_lane_at log number = option_map (λ work. out_name work.taker.rx) (slice_get log number)

-- the lane of the call's response
abbrev pub out_lane_at : List Work → ℕ → Option LaneName
out_lane_at log number = option_map (λ work. in_name work.giver.tx) (slice_get log number)

pub OptionalName_set : (a b : Option LaneName) → IsProp (a ≡ b)
OptionalName_set a b = hlevel props

-- if there is an end, it is of this lane
abbrev pub IsOfLane : Option LaneName → Option LaneName → Type 0
IsOfLane lane None = Unit {0}
IsOfLane lane (Some name) = lane ≡ Some name

pub IsOfLane-prop : (lane end : Option LaneName) → IsProp (IsOfLane lane end)
IsOfLane-prop lane None = hlevel props
IsOfLane-prop lane (Some name) = OptionalName_set lane (Some name)
