use Rattle.std.proofs.Common.{refl}
use Rattle.writerloop.proofs.OpeningSteps.{some-fresh}
use Rattle.writerloop.proofs.sends.Sends.turn_back.Goals as goal

pub invariant_of-send_home : goal.invariant_of-send_home
invariant_of-send_home g c =
    record { there = some-fresh c.args.opening.sending.value.sender c.args.opening.fresh }

pub returns-clause-home : goal.returns-clause-home
returns-clause-home g c = (_, refl, rw c.has_place.ensures.put at c.send_home.ensures.put)
