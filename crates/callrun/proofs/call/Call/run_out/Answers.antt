use Rattle.std.proofs.Common.{refl}
use Rattle.callrun.specs.declared.cause.Cause.TheVariants.{OutOfMemory}
use Rattle.callrun.proofs.Steps.{runs_cut, runs_left}
use Rattle.callrun.proofs.call.Call.run_out.Goals as goal

pub returns-then-lacks_memory-clause-run : goal.returns-then-lacks_memory-clause-run
returns-then-lacks_memory-clause-run g c = λ of_open of_shut was_placed.
    runs_left c.args.self.now of_open of_shut was_placed _ _ c.leave.ensures

pub returns-clause-run : goal.returns-clause-run
returns-clause-run g c = λ of_open of_shut was_placed.
    runs_cut OutOfMemory _ _ _ refl (λ is. is) (λ said. tt) c.end_by.ensures
