use Rattle.readerloop.specs.Calls.{carried_in}
use Rattle.std.proofs.Common.{refl, subst, sym}
use Rattle.connbook.specs.declared.answers.AdmitFault.{AdmitFault}
use Rattle.connbook.specs.declared.answers.AdmitFault.TheVariants as refused
use Rattle.session.specs.declared.event.InEvent.TheVariants as events
use Rattle.readerloop.specs.Readings.{Decides}
use Rattle.readerloop.specs.Steps.{Told, TurnedAway}
use Rattle.readerloop.proofs.Heard.{idle-open}
use Rattle.readerloop.proofs.ReadingSteps.{begins-idle}
use Rattle.readerloop.proofs.reading.Reading.decline.Goals as goal

pub returns-in-TooMany-clause-decides : goal.returns-in-TooMany-clause-decides
returns-in-TooMany-clause-decides g c = λ head sent told reads.
    subst (λ (fault : AdmitFault).
    Decides g.M.Answering.known g.M.Answering.names (carried_in sent) told
    (Told (events.Open c.args.id head) (TurnedAway fault)) c.begin.result c.begin.new.self)
    (sym c.in-TooMany.is)
    (c.begin.ensures.decides sent told
    (Told (events.Open c.args.id head) (TurnedAway refused.TooMany)) (begins-idle told _ c.args.id _
    refl (idle-open c.args.id head (TurnedAway refused.TooMany) refl) reads) refl refl)

pub returns-in-Draining-clause-decides : goal.returns-in-Draining-clause-decides
returns-in-Draining-clause-decides g c = λ head sent told reads.
    subst (λ (fault : AdmitFault).
    Decides g.M.Answering.known g.M.Answering.names (carried_in sent) told
    (Told (events.Open c.args.id head) (TurnedAway fault)) c.begin-in-Draining.result
    c.begin-in-Draining.new.self) (sym c.in-Draining.is)
    (c.begin-in-Draining.ensures.decides sent told
    (Told (events.Open c.args.id head) (TurnedAway refused.Draining)) (begins-idle told _ c.args.id
    _ refl (idle-open c.args.id head (TurnedAway refused.Draining) refl) reads) refl refl)

pub returns-in-NotNew-clause-decides : goal.returns-in-NotNew-clause-decides
returns-in-NotNew-clause-decides g c = λ head sent told reads.
    subst (λ (fault : AdmitFault).
    Decides g.M.Answering.known g.M.Answering.names (carried_in sent) told
    (Told (events.Open c.args.id head) (TurnedAway fault)) c.end_at.result c.end_at.new.self)
    (sym c.in-NotNew.is)
    (c.end_at.ensures.ends sent told (Told (events.Open c.args.id head) (TurnedAway refused.NotNew))
    (begins-idle told _ c.args.id _ refl (idle-open c.args.id head (TurnedAway refused.NotNew) refl)
    reads) refl refl)

pub returns-in-OutOfMemory-clause-decides : goal.returns-in-OutOfMemory-clause-decides
returns-in-OutOfMemory-clause-decides g c = λ head sent told reads.
    subst (λ (fault : AdmitFault).
    Decides g.M.Answering.known g.M.Answering.names (carried_in sent) told
    (Told (events.Open c.args.id head) (TurnedAway fault)) c.end_at-in-OutOfMemory.result
    c.end_at-in-OutOfMemory.new.self) (sym c.in-OutOfMemory.is)
    (c.end_at-in-OutOfMemory.ensures.ends sent told
    (Told (events.Open c.args.id head) (TurnedAway refused.OutOfMemory)) (begins-idle
    told _ c.args.id _ refl
    (idle-open c.args.id head (TurnedAway refused.OutOfMemory) refl) reads) refl refl)
