use Rattle.std.proofs.Common.{◌≡◌, vec_len}
use Rattle.lane.specs.KnownCells.{cells_of, items_of}
use Rattle.lane.proofs.row_lane.cells.agree.Given as goal

abbrev pub invariant-loop-mine : goal.invariant-loop-mine
invariant-loop-mine g l =
    record {
      same_cells : cells_of l.other.items ≡ cells_of l.one.items;
      same_items : items_of l.other.items ≡ items_of l.one.items
          → items_of l.initial.other.items ≡ items_of l.initial.one.items;
    }

abbrev pub decreases-loop-mine : goal.decreases-loop-mine
decreases-loop-mine g l = vec_len l.one
