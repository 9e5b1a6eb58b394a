use Rattle.std.proofs.Common.{◌≡◌, vec_len}
use Rattle.lane.proofs.row_lane.cells.unset_cells.Given as goal

abbrev pub invariant-loop : goal.invariant-loop
invariant-loop g l = vec_len l.cells ≡ l.counter
