use Rattle.std.proofs.Common.{◌∷◌, []}
use Rattle.handlers.specs.declared.reply.Reply.TheVariants.{Empty}
use Rattle.handlers.specs.Requests.{EmptyVerdict}
use Rattle.handlers.proofs.OneMessageSteps.{with_ok, end_after_one}
use Rattle.handlers.proofs.empty_call.EmptyCallMethod.end.Goals as goal

pub returns-in-Taken-clause-answers : goal.returns-in-Taken-clause-answers
returns-in-Taken-clause-answers c =
    with_ok c.reply_and_end.result _ _ _ c.reply_and_end.ensures.step c.reply_and_end.ensures.state
    (λ step is ended messages given stands.
    let one = rw c.in-Taken.is at stands in
    rw is (end_after_one EmptyVerdict messages given one.0 (Empty ∷ []) one.1 one.3 one.2))
