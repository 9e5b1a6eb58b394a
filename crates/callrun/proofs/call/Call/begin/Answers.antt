use Rattle.std.proofs.Common.{◌≡◌, inl, []}
use Rattle.callrun.proofs.Steps.{open_runs, opened_to, runs_on}
use Rattle.callrun.proofs.Items.{runs_head, runs_kept, runs_to}
use Rattle.callrun.proofs.Went.{gave_one}
use Rattle.callrun.proofs.call.Call.begin.Goals as goal

pub returns-in-Ok-clause-run : goal.returns-in-Ok-clause-run
returns-in-Ok-clause-run g c =
    open_runs _ _ _ _ _ _ _ _ c.in-Open.is
    (runs_to _ _ _ _ _ c.in-Ok.ensures.gives
    (runs_head c.args.self.now _ (opened_to (λ g'. g.O.Lane.put_in g'.tx ≡ []) _
    _ c.in-Open.is c.requires.empty) c.requires.due))

pub returns-in-Err-clause-run : goal.returns-in-Err-clause-run
returns-in-Err-clause-run g c =
    open_runs _ _ _ _ _ _ _ _ c.in-Open.is
    (runs_on _ _ _ _ _ _ (runs_kept c.args.self.now _ _ _ _ _ _ c.in-Err.ensures.gives)
    (c.refused.ensures.run _ _ _))

pub returns-in-Ok-clause-went : goal.returns-in-Ok-clause-went
returns-in-Ok-clause-went g c = λ went.
    inl (gave_one _ _ _ _ _ _ _ c.in-Open.is c.in-Ok.ensures.gives)
