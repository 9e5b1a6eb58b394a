-- What the ends of a `RingLane` show.
use Rattle.std.specs.Prelude.{◌≡◌, ℕ, ◌+◌, List, ◌++◌, Option, None, Some}
use Rattle.std.proofs.Props.{props}
use Rattle.rtrb.specs.Ring.{sent, received, known_items}
use Rattle.lane.specs.RingEnds.{RingName, producer_name, consumer_name}
use Rattle.lane.specs.Steps.{pieces, ahead_of}
use Rattle.lane.specs.Linked.{of_second, count_second}
use Rattle.lane.specs.Firsts.{seen_first}
use Rattle.lane.specs.Second as second
use Rattle.lane.specs.declared.ring_lane.second.SecondOut.{SecondOut}
use Rattle.lane.specs.declared.ring_lane.step.RingStep.{RingStep}
use Rattle.lane.specs.declared.ring_lane.RingLaneIn.{RingLaneIn}
use Rattle.lane.specs.declared.ring_lane.RingLaneShut.{RingLaneShut}
use Rattle.lane.specs.declared.ring_lane.RingLaneOut.{RingLaneOut}

-- which first ring, and the room
abbrev pub LaneName : Type 0
LaneName = RingName × ℕ

pub LaneName_set : (a b : LaneName) → IsProp (a ≡ b)
LaneName_set a b = hlevel props

abbrev pub room_of : LaneName → ℕ
room_of name = name.1

module _ {T : Type 0} where
  abbrev pub in_name : RingLaneIn T → LaneName
  in_name tx = (producer_name tx.first, tx.room)

  abbrev pub shut_name : RingLaneShut T → LaneName
  shut_name shut = (producer_name shut.first, shut.room)

  abbrev pub out_name : RingLaneOut T → LaneName
  out_name rx = (consumer_name rx.first, rx.room)

  -- what was put through the first ring, and then through the second
  abbrev pub put_in : RingLaneIn T → List T
  put_in tx = pieces (sent tx.first) ++ of_second second.put_in tx.second

  abbrev pub put_shut : RingLaneShut T → List T
  put_shut shut = pieces (sent shut.first) ++ of_second second.put_shut shut.second

  abbrev pub seen_taken : RingLaneIn T → ℕ
  seen_taken tx = seen_first tx.first + count_second second.seen_taken tx.second

  abbrev pub got : RingLaneOut T → List T
  got rx = pieces (received rx.first) ++ of_second second.got rx.second

  -- what the next polls give, after the reader went on, or before
  abbrev pub ahead_at : Option (SecondOut T) → List (RingStep T) → List T
  ahead_at None known = ahead_of known
  ahead_at (Some out) known = second.ahead out

  abbrev pub ahead : RingLaneOut T → List T
  ahead rx = ahead_at rx.second (known_items rx.first)
