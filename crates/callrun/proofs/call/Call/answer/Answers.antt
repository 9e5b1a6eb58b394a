use Rattle.std.proofs.Common.{refl, sym, ap, subst, ◌∙◌, List, ℕ}
use Rattle.callbox.specs.declared.taker.Taken.TheVariants as taken
use Rattle.callrun.specs.declared.cause.Cause.{Cause}
use Rattle.callrun.specs.Handlings.{EndsBy}
use Rattle.callrun.proofs.Taking.{by_message, by_end, by_reset, by_fault}
use Rattle.callrun.proofs.call.Call.answer.Goals as goal

pub returns-in-Message-clause-run : goal.returns-in-Message-clause-run
returns-in-Message-clause-run g c = λ said next messages given tells run.
    by_message _ _ c.args.taken c.as_slice.result.now _ _ said next messages given
    (c.in-Message.is ∙ ap (λ (bytes : List ℕ). taken.Message bytes) (sym c.as_slice.ensures))
    c.requires refl refl (c.message-in-Message.ensures.answers messages) tells run

pub returns-in-End-clause-run : goal.returns-in-End-clause-run
returns-in-End-clause-run g c = λ said next messages given tells run.
    by_end _ _ c.args.taken _ _ said next messages given c.in-End.is c.requires refl refl
    (c.end.ensures.answers messages) tells run

pub returns-in-Reset-clause-run : goal.returns-in-Reset-clause-run
returns-in-Reset-clause-run g c = λ said next messages given tells run.
    by_reset _ _ c.args.taken _ _ _ said next messages given c.in-Reset.is c.requires refl refl
    c.end_by.ensures tells run

pub returns-in-Fault-clause-run : goal.returns-in-Fault-clause-run
returns-in-Fault-clause-run g c = λ said next messages given tells run.
    by_fault _ _ c.args.taken _ _ _ said next messages given c.in-Fault.is c.requires refl refl
    (subst (λ (cause : Cause). EndsBy cause c.args.self.now.handling c.end_by-in-Fault.new.self)
    c.of_fault-cause.ensures c.end_by-in-Fault.ensures) tells run
