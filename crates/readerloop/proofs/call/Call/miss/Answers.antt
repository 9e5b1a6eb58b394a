use Rattle.std.proofs.Common.{sym, ◌∙◌}
use Rattle.readerloop.specs.Halves.{shown}
use Rattle.readerloop.specs.Steps.{since}
use Rattle.readerloop.proofs.CallSteps.{call-step}
use Rattle.readerloop.proofs.call.Call.miss.Goals as goal

pub returns-clause-heard : goal.returns-clause-heard
returns-clause-heard g c = λ sent told step rises closes is.
    let call = c.args.self.now in
    call-step told step call.id call.method call.number (shown call.half) (shown c.miss.new.self)
    call.finished call.returning rises
    (λ half. c.miss.ensures.heard call.id (since call.id told) step closes half) is

pub invariant_of-self-clause-one_lane : goal.invariant_of-self-clause-one_lane
invariant_of-self-clause-one_lane g c = c.args.self.now.one_lane ∙ sym c.miss.ensures.lane
