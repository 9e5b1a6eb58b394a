use Rattle.std.proofs.Common.{inl, inr}
use Rattle.handlers.specs.Requests.{OutputVerdict}
use Rattle.handlers.proofs.ManyMessageSteps.{one_more, stays_by_one}
use Rattle.handlers.proofs.full_duplex_call.FullDuplexCallMethod.message.Goals as goal

pub returns-in-Ok-clause-stands : goal.returns-in-Ok-clause-stands
returns-in-Ok-clause-stands c = λ messages given stands.
    let all = rw c.in-Fresh.is at stands in
    let is = rw c.in-Ok.is at c.in_ok-replies-in-Fresh.ensures in
    rw (c.in-Fresh.is, c.replying.ensures)
    (one_more OutputVerdict messages given c.args.message.now c.in-Ok.replies all is)

pub returns-in-Ok-clause-answers : goal.returns-in-Ok-clause-answers
returns-in-Ok-clause-answers c = λ messages given stands.
    let all = rw c.in-Fresh.is at stands in
    let is = rw c.in-Ok.is at c.in_ok-replies-in-Fresh.ensures in
    rw c.replying.ensures
    (inl (one_more OutputVerdict messages given c.args.message.now c.in-Ok.replies all is))

pub returns-in-Ended-clause-stands : goal.returns-in-Ended-clause-stands
returns-in-Ended-clause-stands c = λ messages given stands.
    let ended = rw c.in-Ended.is at stands in
    rw (c.in-Ended.is, c.nothing.ensures)
    (stays_by_one OutputVerdict messages given c.args.message.now ended)

pub returns-in-Ended-clause-answers : goal.returns-in-Ended-clause-answers
returns-in-Ended-clause-answers c = λ messages given stands.
    let ended = rw c.in-Ended.is at stands in
    rw c.nothing.ensures (inr (stays_by_one OutputVerdict messages given c.args.message.now ended))
