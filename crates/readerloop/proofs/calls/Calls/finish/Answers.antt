use Rattle.std.proofs.Common.{sym}
use Rattle.readerloop.specs.Kept.{accounts_of, unsettled}
use Rattle.readerloop.proofs.AwaitedSteps.{done-none, done-one}
use Rattle.readerloop.proofs.CutSteps.{cut-set}
use Rattle.readerloop.proofs.KeptSteps.{kept-back}
use Rattle.readerloop.proofs.calls.Calls.finish.Goals as goal

pub returns-clause-stays : goal.returns-clause-stays
returns-clause-stays g c = λ sent is told k.
    let calls = c.args.self.now in
    kept-back told (unsettled calls) (accounts_of calls) calls.last c.in-Some.place
    c.in-Some-get_mut.call.now c.finish.new.self
    c.in-Some-get_mut.ensures.item.3.0 c.in-Some-get_mut.ensures.value c.finish.ensures.id
    c.finish.ensures.place (c.finish.ensures.stays sent told is) k

pub returns-clause-back : goal.returns-clause-back
returns-clause-back g c =
    done-one c.args.finished.number.value c.in-Some.place (unsettled c.args.self.now)
    c.in-Some-get_mut.call.now c.finish.new.self (sym c.in-Some.ensures)
    c.in-Some-get_mut.ensures.value
    c.finish.ensures.number c.finish.ensures.returning c.finish.ensures.back

pub returns-in_default-clause-back : goal.returns-in_default-clause-back
returns-in_default-clause-back g c =
    done-none c.args.finished.number.value (unsettled c.args.self.now) (sym c.in_default.ensures)

pub returns-clause-cut : goal.returns-clause-cut
returns-clause-cut g c = λ cut.
    cut-set (unsettled c.args.self.now) c.in-Some.place c.in-Some-get_mut.call.now c.finish.new.self
    c.in-Some-get_mut.ensures.item.3.0 c.in-Some-get_mut.ensures.value c.finish.ensures.half cut
