use Rattle.std.proofs.Common.{◌≡◌}
use Rattle.lane.specs.End.{of_end}
use Rattle.call_rows.proofs.in_ends.run_in.Given as goal

-- both ends are of one call
abbrev pub invariant-loop-event : goal.invariant-loop-event
invariant-loop-event g l =
    of_end (λ f. g.L.Lane.in_name f.tx) (λ s. g.L.Lane.shut_name s.shut) l.end
    ≡ g.L.Lane.out_name l.taker.rx
