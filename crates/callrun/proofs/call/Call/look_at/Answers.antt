use Rattle.std.proofs.Common.{refl}
use Rattle.callrun.specs.declared.cause.Cause.TheVariants.{DeadlineExceeded}
use Rattle.callrun.proofs.Steps.{runs_cut}
use Rattle.callrun.proofs.call.Call.look_at.Goals as goal

pub returns-then-deadline-from-clause-run : goal.returns-then-deadline-from-clause-run
returns-then-deadline-from-clause-run c = λ before.
    runs_cut DeadlineExceeded _ _ before refl (λ is. refl) (λ said. refl) c.end_by.ensures
