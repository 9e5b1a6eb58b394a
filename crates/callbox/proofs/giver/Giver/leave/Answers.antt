use Rattle.callbox.proofs.OutLemmas.{left_response, left_closed, no_trailers}
use Rattle.callbox.proofs.giver.Giver.leave.Goals as goal

pub invariant_of-result : goal.invariant_of-result
invariant_of-result g c =
    let put = g.L.Lane.put_in c.args.self.tx in
    let new = g.L.Lane.put_shut c.last-shut.result in
    let placed = g.L.Lane.was_placed c.last-shut.result in
    record {
      response =
          left_response placed put new c.args.self.response c.args.self.unshut
          c.last-shut.ensures.put;
      closed =
          left_closed placed put new (no_trailers put c.args.self.unshut) c.last-shut.ensures.put;
    }
