use Rattle.handlers.specs.Requests.{OutputVerdict}
use Rattle.handlers.proofs.ManyMessageSteps.{one_asks, one_ends}
use Rattle.handlers.proofs.half_duplex_call.answer_one.Goals as goal

pub returns-in-Ok : goal.returns-in-Ok
returns-in-Ok c =
    let is = rw c.in-Ok.is at c.in_ok-replies.ensures in
    rw c.replying.ensures (one_asks OutputVerdict c.args.message.now c.in-Ok.replies is)

pub returns-in-Err : goal.returns-in-Err
returns-in-Err c =
    let is = rw c.in-Err.is at c.in_ok-replies.ensures in
    rw c.ending.ensures (one_ends OutputVerdict c.args.message.now c.in-Err.status is)
