use Rattle.std.proofs.Common.{◌≡◌, ◌≤◌, vec_capacity}
use Rattle.lane.proofs.uses.two_threads.take_all.Given as goal

abbrev pub invariant-loop : goal.invariant-loop
invariant-loop g l =
    record {
      name : g.L.Lane.out_name l.rx ≡ g.L.Lane.out_name l.fn.rx;
      got : g.L.Lane.got l.rx ≡ l.taken.items;
      kept : l.count ≤ vec_capacity l.taken;
    }
