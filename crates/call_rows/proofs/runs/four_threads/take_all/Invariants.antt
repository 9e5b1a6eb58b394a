use Rattle.std.proofs.Common.{◌≡◌}
use Rattle.callbox.specs.InSides.{TakesMessages}
use Rattle.call_rows.proofs.runs.four_threads.take_all.Given as goal

abbrev pub invariant-loop : goal.invariant-loop
invariant-loop g l =
    record {
      name : g.L.Lane.out_name l.taker.rx ≡ g.L.Lane.out_name l.fn.taker.rx;
      took : TakesMessages (g.L.Lane.got l.taker.rx) l.taker.progress l.taken.items;
    }
