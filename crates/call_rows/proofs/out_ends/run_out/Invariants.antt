use Rattle.std.proofs.Common.{◌≡◌}
use Rattle.lane.specs.End.{of_end}
use Rattle.call_rows.proofs.out_ends.run_out.Given as goal

-- both ends are of one call
abbrev pub invariant-loop-event : goal.invariant-loop-event
invariant-loop-event g l =
    of_end (λ giver. g.L.Lane.in_name giver.tx) (λ s. g.L.Lane.shut_name s.shut) l.end
    ≡ g.L.Lane.out_name l.sender.rx
