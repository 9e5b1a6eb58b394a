use Rattle.std.proofs.Common.{ap}
use Rattle.handlers.specs.declared.step.MethodStep.{MethodStep}
use Rattle.handlers.specs.Steps.{nothing, joined}
use Rattle.handlers.proofs.half_duplex_call.HalfDuplexCallMethod.message.Goals as goal

pub returns-in_ok-hold_more-in-Held-clause-stands :
    goal.returns-in_ok-hold_more-in-Held-clause-stands
returns-in_ok-hold_more-in-Held-clause-stands c = λ messages given stands.
    let held = rw c.in-Held.is at stands in (
      c.in_ok-hold_more-in-Held.ensures messages held.0,
      rw c.nothing.ensures (ap (λ (s : MethodStep). joined s nothing) held.1),
    )
