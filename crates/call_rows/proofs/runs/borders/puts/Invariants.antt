use Rattle.std.proofs.Common.{◌≡◌}
use Rattle.lane.specs.RingLane.{in_name}
use Rattle.call_rows.proofs.runs.borders.puts.Given as goal

abbrev pub invariant-loop-number : goal.invariant-loop-number
invariant-loop-number l = in_name l.tx ≡ in_name l.initial.tx
