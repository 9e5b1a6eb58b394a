use Rattle.handlers.specs.Requests.{SimpleVerdict}
use Rattle.handlers.proofs.OneMessageSteps.{with_ok, end_after_one}
use Rattle.handlers.proofs.unary_call.answer_request.Goals as goal

pub returns-in-Sum-clause-answers : goal.returns-in-Sum-clause-answers
returns-in-Sum-clause-answers c =
    with_ok c.reply_and_end.result _ _ _ c.reply_and_end.ensures.step c.reply_and_end.ensures.state
    (λ step is ended messages given stands.
    let one = rw c.in-Sum.is at stands in
    rw is (end_after_one SimpleVerdict messages given one.0 _ one.1 one.3 one.2))
