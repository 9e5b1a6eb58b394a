use Rattle.std.proofs.Common.{◌≡◌}
use Rattle.lane.specs.RingLane.{in_name, out_name}
use Rattle.call_rows.proofs.runs.borders.come_one_by_one.Given as goal

abbrev pub invariant-loop-number : goal.invariant-loop-number
invariant-loop-number l = in_name l.tx ≡ out_name l.rx
