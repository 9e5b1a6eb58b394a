use Rattle.readerloop.proofs.Settling.{settled-by}
use Rattle.readerloop.proofs.call.Call.settle.Goals as goal

pub returns-clause-settled : goal.returns-clause-settled
returns-clause-settled g c = λ sent told is.
    settled-by told c.args.self c.in-Some.field-0 c.in-Some-returning.field-0
    c.into_inner-sent.result c.in-Some-sender.sender c.settle_in-input.result
    c.settle_out-output.result c.status_with-status.result _ _ c.requires.over
    c.status_with-status.ensures c.in-Some.is
    c.in-Some-returning.is c.into_inner-sent.ensures c.in-Some-sender.is
    (λ one. c.is-one_worked.ensures.same (c.is-one_worked.ensures.equal one))
    (λ one. c.is-one_sent.ensures.same (c.is-one_sent.ensures.equal one))
    c.into_end.ensures.items c.into_end.ensures.shut c.settle_in-input.ensures.account
    c.settle_out-output.ensures.account is
