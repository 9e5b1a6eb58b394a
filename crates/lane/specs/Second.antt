-- What the ends of a `RingLane`'s second ring show.
use Rattle.std.specs.Prelude.{ℕ, ◌-◌, List}
use Rattle.rtrb.specs.Ring.{sent, received, known_items}
use Rattle.lane.specs.RingEnds.{RingName, slots_of, producer_name, consumer_name, popped_count}
use Rattle.lane.specs.declared.ring_lane.second.SecondIn.{SecondIn}
use Rattle.lane.specs.declared.ring_lane.second.SecondShut.{SecondShut}
use Rattle.lane.specs.declared.ring_lane.second.SecondOut.{SecondOut}

-- one place is kept for the last item
abbrev pub room_of : RingName → ℕ
room_of name = slots_of name - 1

module _ {T : Type 0} where
  abbrev pub in_name : SecondIn T → RingName
  in_name tx = producer_name tx.producer

  abbrev pub shut_name : SecondShut T → RingName
  shut_name shut = producer_name shut.producer

  abbrev pub out_name : SecondOut T → RingName
  out_name rx = consumer_name rx.consumer

  abbrev pub put_in : SecondIn T → List T
  put_in tx = sent tx.producer

  abbrev pub put_shut : SecondShut T → List T
  put_shut shut = sent shut.producer

  abbrev pub seen_taken : SecondIn T → ℕ
  seen_taken tx = popped_count tx.producer

  abbrev pub seen_shut : SecondShut T → ℕ
  seen_shut shut = popped_count shut.producer

  abbrev pub got : SecondOut T → List T
  got rx = received rx.consumer

  -- what the next polls are sure to give
  abbrev pub ahead : SecondOut T → List T
  ahead rx = known_items rx.consumer
