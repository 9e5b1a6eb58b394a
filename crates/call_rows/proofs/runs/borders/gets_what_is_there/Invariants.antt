use Rattle.std.proofs.Common.{◌≡◌}
use Rattle.lane.specs.RingLane.{in_name, out_name}
use Rattle.call_rows.proofs.runs.borders.gets_what_is_there.Given as goal

abbrev pub invariant-loop : goal.invariant-loop
invariant-loop l = in_name l.tx ≡ out_name l.rx
