-- What the ends of a `Ring` show.
use Rattle.std.specs.Prelude.{ℕ, ◌+◌, ◌<◌, List, length}
use Rattle.rtrb.specs.Ring.{sent, received, known_items}
use Rattle.lane.specs.RingEnds.{RingName, slots_of, producer_name, consumer_name, popped_count}
use Rattle.lane.specs.declared.ring.RingIn.{RingIn}
use Rattle.lane.specs.declared.ring.RingOut.{RingOut}

module _ {T : Type 0} where
  -- which `open` an end is of
  abbrev pub in_name : RingIn T → RingName
  in_name tx = producer_name tx.producer

  abbrev pub out_name : RingOut T → RingName
  out_name rx = consumer_name rx.consumer

  -- what was put, oldest first
  abbrev pub put_in : RingIn T → List T
  put_in tx = sent tx.producer

  -- how many items the writing end has seen taken
  abbrev pub seen_taken : RingIn T → ℕ
  seen_taken tx = popped_count tx.producer

  -- a slot is free: fewer items than the ring has slots were put and not seen taken
  abbrev pub HasRoom : RingIn T → Type 0
  HasRoom tx = length (put_in tx) < seen_taken tx + slots_of (in_name tx)

  -- what was taken, oldest first
  abbrev pub taken : RingOut T → List T
  taken rx = received rx.consumer

  -- what the next takes are sure to give
  abbrev pub ahead : RingOut T → List T
  ahead rx = known_items rx.consumer
