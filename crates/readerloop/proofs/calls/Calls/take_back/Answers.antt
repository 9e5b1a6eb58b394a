use Rattle.readerloop.specs.Kept.{accounts_of, unsettled}
use Rattle.readerloop.proofs.AwaitedSteps.{found-by, sent-none, sent-one}
use Rattle.readerloop.proofs.CutSteps.{cut-set}
use Rattle.readerloop.proofs.KeptSteps.{kept-back}
use Rattle.readerloop.proofs.calls.Calls.take_back.Goals as goal

pub returns-clause-stays : goal.returns-clause-stays
returns-clause-stays g c = λ sent is told k.
    let calls = c.args.self.now in
    kept-back told (unsettled calls) (accounts_of calls) calls.last c.in-Some.place
    c.in-Some-get_mut.call.now c.take_back.new.self
    c.in-Some-get_mut.ensures.item.3.0 c.in-Some-get_mut.ensures.value c.take_back.ensures.id
    c.take_back.ensures.place (c.take_back.ensures.stays sent told is) k

pub returns-clause-back : goal.returns-clause-back
returns-clause-back g c =
    let calls = unsettled c.args.self.now in
    sent-one c.args.returning.sending.value.number.value c.in-Some.place calls
    c.in-Some-get_mut.call.now c.take_back.new.self (found-by c.deref.result.now
    c.args.returning.sending.value calls _ c.deref.ensures c.in-Some.ensures)
    c.in-Some-get_mut.ensures.value c.take_back.ensures.number c.take_back.ensures.finished
    c.take_back.ensures.back

pub returns-in_default-clause-back : goal.returns-in_default-clause-back
returns-in_default-clause-back g c =
    let calls = unsettled c.args.self.now in
    sent-none c.args.returning.sending.value.number.value calls (found-by c.deref.result.now
    c.args.returning.sending.value calls _ c.deref.ensures c.in_default.ensures)

pub returns-clause-cut : goal.returns-clause-cut
returns-clause-cut g c = λ cut.
    cut-set (unsettled c.args.self.now) c.in-Some.place c.in-Some-get_mut.call.now
    c.take_back.new.self c.in-Some-get_mut.ensures.item.3.0 c.in-Some-get_mut.ensures.value
    c.take_back.ensures.half cut
