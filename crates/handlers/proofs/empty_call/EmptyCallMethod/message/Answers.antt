use Rattle.std.proofs.Common.{◌∷◌, []}
use Rattle.handlers.specs.declared.reply.Reply.TheVariants.{Empty}
use Rattle.handlers.specs.Requests.{EmptyVerdict}
use Rattle.handlers.proofs.OneMessageSteps.{with_ok, first_asks, first_ends, second_ends}
use Rattle.handlers.proofs.empty_call.EmptyCallMethod.message.Goals as goal

pub returns-in-Ok-clause-answers : goal.returns-in-Ok-clause-answers
returns-in-Ok-clause-answers c = λ messages given stands.
    let fresh = rw c.in-Fresh.is at stands in
    let is = rw c.in-Ok.is at c.in_ok-judge_empty-in-Fresh.ensures in
    rw c.nothing.ensures
    (first_asks EmptyVerdict messages given c.args.message.now (Empty ∷ []) fresh is)

pub returns-in-Err-clause-stands : goal.returns-in-Err-clause-stands
returns-in-Err-clause-stands c = λ messages given stands.
    let fresh = rw c.in-Fresh.is at stands in
    let is = rw c.in-Err.is at c.in_ok-judge_empty-in-Fresh.ensures in
    rw (c.end_with.ensures.step, c.end_with.ensures.state)
    (first_ends EmptyVerdict messages given c.args.message.now c.in-Err.status fresh is)

pub returns-in-Err-clause-answers : goal.returns-in-Err-clause-answers
returns-in-Err-clause-answers c = λ messages given stands.
    let fresh = rw c.in-Fresh.is at stands in
    let is = rw c.in-Err.is at c.in_ok-judge_empty-in-Fresh.ensures in
    rw c.end_with.ensures.step
    ((first_ends EmptyVerdict messages given c.args.message.now c.in-Err.status fresh is).1)

pub returns-in-Taken-clause-stands : goal.returns-in-Taken-clause-stands
returns-in-Taken-clause-stands c = λ messages given stands.
    let one = rw c.in-Taken.is at stands in
    rw (c.refuse.ensures.step, c.refuse.ensures.state) (second_ends EmptyVerdict messages given
    one.0 c.args.message.now (Empty ∷ []) one.1 one.3 one.2)

pub returns-in-Taken-clause-answers : goal.returns-in-Taken-clause-answers
returns-in-Taken-clause-answers c = λ messages given stands.
    let one = rw c.in-Taken.is at stands in
    rw c.refuse.ensures.step ((second_ends EmptyVerdict messages given one.0 c.args.message.now
    (Empty ∷ []) one.1 one.3 one.2).1)
