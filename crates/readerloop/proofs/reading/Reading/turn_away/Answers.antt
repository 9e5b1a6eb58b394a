use Rattle.std.proofs.Common.{ℕ, subst}
use Rattle.callhead.specs.declared.head.CallHead.{CallHead}
use Rattle.connbook.specs.declared.answers.AdmitFault.{AdmitFault}
use Rattle.session.specs.declared.event.InEvent.TheVariants as events
use Rattle.readerloop.specs.Readings.{DecidesOn}
use Rattle.readerloop.specs.Steps.{Told, TurnedAway}
use Rattle.readerloop.proofs.reading.Reading.turn_away.Goals as goal

pub returns-clause-decides : goal.returns-clause-decides
returns-clause-decides g c =
    subst (λ (fault : AdmitFault). (head : CallHead)
    → DecidesOn g.M.Answering.known g.M.Answering.names
    (Told (events.Open c.args.refused.now.id head) (TurnedAway fault)) c.decline.result
    c.args.self.now c.decline.new.self)
    c.fault.ensures
    (subst (λ (id : ℕ). (head : CallHead)
    → DecidesOn g.M.Answering.known g.M.Answering.names
    (Told (events.Open id head) (TurnedAway c.fault.result)) c.decline.result
    c.args.self.now c.decline.new.self)
    c.id.ensures c.decline.ensures.decides)
