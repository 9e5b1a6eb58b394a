-- The ends of a call's lanes.
use Rattle.lane.specs.contracts.ring_lane.RingLaneLane.TheImpl.{ghosts, no_dict}
use Rattle.lane.specs.declared.ring_lane.RingLane.{RingLane}
use Rattle.lane.specs.declared.ring_lane.RingLaneIn.{RingLaneIn}
use Rattle.lane.specs.declared.ring_lane.RingLaneOut.{RingLaneOut}
use Rattle.lane.specs.declared.ring_lane.RingLaneShut.{RingLaneShut}
use Rattle.account.specs.contracts.call.OutItem as out_item
use Rattle.account.specs.declared.call.OutItem.{OutItem}
use Rattle.callbox.specs.declared.giver.Giver.{Giver}
use Rattle.callbox.specs.declared.giver.GivenShut.{GivenShut}
use Rattle.callbox.specs.declared.sender.Sender.{Sender}

-- the ends of the lane of a call's response
abbrev pub OutGiver : Type 0
OutGiver =
    Giver (RingLane OutItem) (RingLaneIn OutItem) (RingLaneOut OutItem) (RingLaneShut OutItem)
    (ghosts out_item.the_row no_dict)

abbrev pub OutGiven : Type 0
OutGiven =
    GivenShut (RingLane OutItem) (RingLaneIn OutItem) (RingLaneOut OutItem) (RingLaneShut OutItem)
    (ghosts out_item.the_row no_dict)

abbrev pub OutSender : Type 0
OutSender =
    Sender (RingLane OutItem) (RingLaneIn OutItem) (RingLaneOut OutItem) (RingLaneShut OutItem)
