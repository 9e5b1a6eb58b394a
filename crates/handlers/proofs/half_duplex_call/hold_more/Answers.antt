use Rattle.std.proofs.Common.{Bool, refl, ap, ◌∙◌}
use Rattle.std.specs.Prelude.{not}
use Rattle.handlers.specs.Requests.{OutputVerdict}
use Rattle.handlers.proofs.ManyMessageSteps.{hold_asked, hold_ended, hold_same}
use Rattle.handlers.proofs.half_duplex_call.hold_more.Goals as goal

pub returns-in_ok-append-in-Ok : goal.returns-in_ok-append-in-Ok
returns-in_ok-append-in-Ok c = λ messages answer.
    let is = rw c.in-Ok.is at c.in_ok-more.ensures in
    hold_asked OutputVerdict messages c.args.held.now _ c.args.message.now c.in-Ok.more
    (c.is_none.ensures ∙ ap (λ (b : Bool). not b) c.if-is_none.true)
    c.in_ok-append-in-Ok.ensures.ok refl is answer

pub returns-else-is_none : goal.returns-else-is_none
returns-else-is_none c = λ messages answer.
    hold_same OutputVerdict messages c.args.held.now c.args.message.now
    (c.is_none.ensures ∙ ap (λ (b : Bool). not b) c.if-is_none.false) answer
