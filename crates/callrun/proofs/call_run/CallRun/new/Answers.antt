use Rattle.std.proofs.Common.{subst, None, [], false}
use Rattle.callrun.specs.Runs.{HasRun}
use Rattle.callrun.specs.declared.call.Call.{Call}
use Rattle.callrun.proofs.Steps.{live}
use Rattle.callrun.proofs.Taking.{if_is, fresh_run}
use Rattle.callrun.proofs.call_run.CallRun.new.Goals as goal

pub returns-clause-run : goal.returns-clause-run
returns-clause-run g c = if_is _ _ _ c.in-Some.ensures
    (λ untold empty.
    let call : Call = record {
      alloc = c.args.alloc;
      head = c.args.head;
      deadline = c.match-head.deadline;
      overdue = false;
      handling = c.new-handling.result;
    } in
    subst (λ m.
    HasRun ((g.dyn-1.0.entry m.0).1.answers m.1) ((g.dyn-1.0.entry m.0).1.stands m.1) None [] call
    (live (g.O.Lane.put_in c.args.giver.tx))) c.deref_box-1.ensures.1
    (fresh_run _ _ call _ c.new-handling.ensures.lawful c.new-handling.ensures.standing
    c.new-handling.ensures.none c.new-handling.ensures.ready empty))
