use Rattle.handlers.specs.Requests.{OutputVerdict}
use Rattle.handlers.proofs.OneMessageSteps.{with_ok, second_ends}
use Rattle.handlers.proofs.streaming_output_call.StreamingOutputCallMethod.message.Goals as goal

pub returns-in-Held-clause-stands : goal.returns-in-Held-clause-stands
returns-in-Held-clause-stands c = λ messages given stands.
    let one = rw c.in-Held.is at stands in
    rw (c.refuse.ensures.step, c.refuse.ensures.state)
    (second_ends OutputVerdict messages given one.0 c.args.message.now one.2 one.1 one.5 one.3)

pub returns-in-Held-clause-answers : goal.returns-in-Held-clause-answers
returns-in-Held-clause-answers c = λ messages given stands.
    let one = rw c.in-Held.is at stands in
    rw c.refuse.ensures.step
    ((second_ends OutputVerdict messages given one.0 c.args.message.now one.2 one.1 one.5 one.3).1)
