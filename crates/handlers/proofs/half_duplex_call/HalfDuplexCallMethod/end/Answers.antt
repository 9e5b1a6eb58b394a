use Rattle.handlers.specs.Requests.{OutputVerdict}
use Rattle.handlers.proofs.ManyMessageSteps.{half_end}
use Rattle.handlers.proofs.half_duplex_call.HalfDuplexCallMethod.end.Goals as goal

pub returns-in-Held-clause-answers : goal.returns-in-Held-clause-answers
returns-in-Held-clause-answers c = λ messages given stands.
    let full = rw c.in-Held.is at stands in
    let step = c.release.ensures.step _ c.in-Held.is in
    rw step (half_end OutputVerdict messages given _ full)
