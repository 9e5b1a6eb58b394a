use Rattle.std.proofs.Common.{◌≡◌, ◌++◌}
use Rattle.call_rows.proofs.runs.four_threads.send_all.Given as goal

abbrev pub invariant-loop : goal.invariant-loop
invariant-loop g l =
    record {
      name : g.L.Lane.out_name l.sender.rx ≡ g.L.Lane.out_name l.fn.sender.rx;
      sent : g.L.Lane.got l.sender.rx ≡ g.L.Lane.got l.fn.sender.rx ++ l.sent.items;
    }
