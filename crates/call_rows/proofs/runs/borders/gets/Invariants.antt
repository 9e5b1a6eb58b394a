use Rattle.std.proofs.Common.{◌≡◌}
use Rattle.lane.specs.RingLane.{out_name}
use Rattle.call_rows.proofs.runs.borders.gets.Given as goal

abbrev pub invariant-loop-number : goal.invariant-loop-number
invariant-loop-number l = out_name l.rx ≡ out_name l.initial.rx
