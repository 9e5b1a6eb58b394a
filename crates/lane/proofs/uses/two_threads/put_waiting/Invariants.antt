use Rattle.std.proofs.Common.{◌≡◌}
use Rattle.lane.proofs.uses.two_threads.put_waiting.Given as goal

abbrev pub invariant-loop : goal.invariant-loop
invariant-loop g l =
    record {
      name : g.L.Lane.in_name l.tx ≡ g.L.Lane.in_name l.initial.tx;
      put : g.L.Lane.put_in l.tx ≡ g.L.Lane.put_in l.initial.tx;
      item : l.item ≡ l.initial.item;
    }
