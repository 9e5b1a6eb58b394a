use Rattle.std.proofs.Common.{ap, ◌∙◌}
use Rattle.handlers.specs.declared.step.MethodStep.{MethodStep}
use Rattle.handlers.specs.Steps.{finished}
use Rattle.handlers.specs.Requests.{OutputVerdict}
use Rattle.handlers.proofs.OneMessageSteps.{end_after_one}
use Rattle.handlers.proofs.streaming_output_call.StreamingOutputCallMethod.end.Goals as goal

pub returns-in-Held-clause-answers : goal.returns-in-Held-clause-answers
returns-in-Held-clause-answers c = λ messages given stands.
    let one = rw c.in-Held.is at stands in
    let step = c.release.ensures.step _ c.in-Held.is ∙ ap (λ (s : MethodStep). finished s) one.4 in
    rw step (end_after_one OutputVerdict messages given one.0 one.2 one.1 one.5 one.3)
