use Rattle.std.proofs.Common.{inl, inr}
use Rattle.handlers.specs.Requests.{InputVerdict}
use Rattle.handlers.proofs.OneMessageSteps.{with_ok}
use Rattle.handlers.proofs.ManyMessageSteps.{sum_more, sum_over, stays_by_sum}
use Rattle.handlers.proofs.streaming_input_call.StreamingInputCallMethod.message.Goals as goal

pub returns-in-Some-clause-stands : goal.returns-in-Some-clause-stands
returns-in-Some-clause-stands c = λ messages given stands.
    let added = rw c.in-Sum.is at stands in
    let is = rw c.in-Ok.is at c.in_ok-length-in-Sum.ensures in
    rw (c.set.ensures, c.nothing.ensures) (sum_more InputVerdict messages given c.args.message.now _
    c.in-Ok.length c.in-Some.total added is c.in-Some.ensures)

pub returns-in-Some-clause-answers : goal.returns-in-Some-clause-answers
returns-in-Some-clause-answers c = λ messages given stands.
    let added = rw c.in-Sum.is at stands in
    let is = rw c.in-Ok.is at c.in_ok-length-in-Sum.ensures in
    let more =
    sum_more InputVerdict messages given c.args.message.now _ c.in-Ok.length c.in-Some.total added
    is c.in-Some.ensures in
    rw c.nothing.ensures (inl (c.in-Some.total, more.0, more.1))

pub returns-in-None-clause-stands : goal.returns-in-None-clause-stands
returns-in-None-clause-stands c = λ messages given stands.
    let added = rw c.in-Sum.is at stands in
    let asked = rw c.in-Ok.is at c.in_ok-length-in-Sum.ensures in
    rw (c.refuse.ensures.step, c.refuse.ensures.state) (sum_over InputVerdict messages given
    c.args.message.now _ c.in-Ok.length added asked c.in-None.ensures)

pub returns-in-None-clause-answers : goal.returns-in-None-clause-answers
returns-in-None-clause-answers c = λ messages given stands.
    let added = rw c.in-Sum.is at stands in
    let asked = rw c.in-Ok.is at c.in_ok-length-in-Sum.ensures in
    rw c.refuse.ensures.step (inr (sum_over InputVerdict messages given c.args.message.now _
    c.in-Ok.length added asked c.in-None.ensures))

pub returns-in-Ended-clause-stands : goal.returns-in-Ended-clause-stands
returns-in-Ended-clause-stands c = λ messages given stands.
    let ended = rw c.in-Ended.is at stands in
    rw (c.in-Ended.is, c.nothing-in-Ended.ensures)
    (stays_by_sum InputVerdict messages given c.args.message.now ended)

pub returns-in-Ended-clause-answers : goal.returns-in-Ended-clause-answers
returns-in-Ended-clause-answers c = λ messages given stands.
    let ended = rw c.in-Ended.is at stands in
    rw c.nothing-in-Ended.ensures
    (inr (stays_by_sum InputVerdict messages given c.args.message.now ended))
