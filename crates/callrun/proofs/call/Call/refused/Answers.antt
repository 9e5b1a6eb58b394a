use Rattle.callrun.proofs.Steps.{runs_left}
use Rattle.callrun.proofs.call.Call.refused.Goals as goal

pub returns-in-NotTaken-clause-run : goal.returns-in-NotTaken-clause-run
returns-in-NotTaken-clause-run g c = λ of_open of_shut was_placed.
    runs_left c.args.self.now of_open of_shut was_placed _ _ c.leave.ensures
