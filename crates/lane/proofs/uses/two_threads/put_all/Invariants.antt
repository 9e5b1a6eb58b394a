use Rattle.std.proofs.Common.{◌≡◌, take}
use Rattle.lane.proofs.uses.two_threads.put_all.Given as goal

abbrev pub invariant-loop-item : goal.invariant-loop-item
invariant-loop-item g l =
    record {
      count : l.count ≡ l.item-index;
      name : g.L.Lane.in_name l.tx ≡ g.L.Lane.in_name l.fn.tx;
      put : g.L.Lane.put_in l.tx ≡ take l.item-index l.items;
    }
