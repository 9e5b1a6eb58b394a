-- What the ends of a `RowLane` show.
use Rattle.std.specs.Prelude.{◌≡◌, ℕ, ◌-◌, Bool, List}
use Rattle.std.proofs.Props.{props}
use Rattle.std.specs.Arc.{arc_value}
use Rattle.lane.specs.RingEnds.{RingName, slots_of, producer_name, consumer_name}
use Rattle.lane.specs.KnownCells.{names_of, items_of}
use Rattle.lane.specs.declared.row_lane.RowLaneIn.{RowLaneIn}
use Rattle.lane.specs.declared.row_lane.RowLaneShut.{RowLaneShut}
use Rattle.lane.specs.declared.row_lane.RowLaneOut.{RowLaneOut}

-- which cells, and which ring of marks
abbrev pub RowName : Type 0
RowName = List ℕ × RingName

pub RowName_set : (a b : RowName) → IsProp (a ≡ b)
RowName_set a b = hlevel props

-- one mark is kept for the last item
abbrev pub room_of : RowName → ℕ
room_of name = slots_of name.1 - 1

module _ {T : Type 0} where
  abbrev pub in_name : RowLaneIn T → RowName
  in_name tx = (names_of (arc_value tx.cells).items, producer_name tx.marks)

  abbrev pub shut_name : RowLaneShut T → RowName
  shut_name shut = (names_of (arc_value shut.cells).items, producer_name shut.marks)

  abbrev pub out_name : RowLaneOut T → RowName
  out_name rx = (names_of (arc_value rx.cells).items, consumer_name rx.marks)

  abbrev pub put_in : RowLaneIn T → List T
  put_in tx = items_of tx.put.items

  abbrev pub put_shut : RowLaneShut T → List T
  put_shut shut = items_of shut.put.items

  abbrev pub was_placed : RowLaneShut T → Bool
  was_placed shut = shut.placed

  abbrev pub got : RowLaneOut T → List T
  got rx = items_of rx.got.items
