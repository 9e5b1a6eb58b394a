-- What is known of cells that are set once.
use Rattle.std.specs.Prelude.{ℕ, List, map}
use Rattle.std.specs.List.{flat_map}
use Rattle.std.specs.declared.alloc.Global.{Global}
use Rattle.once_cell.specs.Once.{cell_name}
use Rattle.lane.specs.Notes.{known_item}
use Rattle.lane.specs.declared.row_lane.known_cell.KnownCell.{KnownCell}

-- the names of a row of cells
abbrev pub names_of : List (Global × ℕ) → List ℕ
names_of cells = map cell_name cells

module _ {T : Type 0} where
  abbrev pub cell_of : KnownCell T → ℕ
  cell_of known = known.note.cell

  abbrev pub item_of : KnownCell T → List T
  item_of known = known_item known.note.known

  -- the cells, and the items in them, in the order in which they came to be known
  abbrev pub cells_of : List (KnownCell T) → List ℕ
  cells_of all = map cell_of all

  abbrev pub items_of : List (KnownCell T) → List T
  items_of all = flat_map item_of all
