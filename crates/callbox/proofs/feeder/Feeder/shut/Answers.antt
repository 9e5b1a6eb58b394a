use Rattle.std.proofs.Common.{◌∙◌}
use Rattle.callbox.proofs.InLemmas.{placed_counted, placed_last, placed_shut}
use Rattle.callbox.proofs.feeder.Feeder.shut.Goals as goal

pub invariant_of-result : goal.invariant_of-result
invariant_of-result g c =
    let put = g.L.Lane.put_in c.args.self.tx in
    let new = g.L.Lane.put_shut c.last-shut.result in
    let placed = g.L.Lane.was_placed c.last-shut.result in
    record {
      counted =
          c.args.self.counted ∙ placed_counted placed put new c.args.kind c.last-shut.ensures.put;
      last = placed_last placed put new c.args.kind c.args.self.unshut c.last-shut.ensures.put;
      put = placed_shut placed put new c.args.kind c.args.self.unshut c.last-shut.ensures.put;
    }
