use Rattle.std.proofs.Common.{◌≡◌, inl, sym, ap, List}
use Rattle.handlers.specs.declared.reply.Reply.{Reply}
use Rattle.callrun.specs.declared.call.Call.{Call}
use Rattle.callrun.proofs.Steps.{open_runs, runs_on}
use Rattle.callrun.proofs.Items.{runs_reply, runs_kept, runs_to}
use Rattle.callrun.proofs.Went.{gave_one}
use Rattle.callrun.proofs.call.Call.give.Goals as goal

passed : (call : Call) (waiting rest : List Reply) → waiting ≡ rest
    → record call { handling = record call.handling { waiting = waiting } }
    ≡ record call { handling = record call.handling { waiting = rest } }
passed call waiting rest same =
    ap (λ (w : List Reply). record call { handling = record call.handling { waiting = w } }) same

pub returns-in-Ok-clause-run : goal.returns-in-Ok-clause-run
returns-in-Ok-clause-run g c =
    open_runs _ _ _ _ _ _ _ _ c.in-Open.is
    (runs_to _ _ _ _ _ c.in-Ok.ensures.gives
    (runs_reply c.args.self.now _ _ c.args.reply c.requires.0
    (sym c.if-not-has_head.ensures.head) c.requires.1
    (passed c.args.self.now c.pass.new.self c.requires.0
    (c.pass.ensures c.args.reply c.requires.0 c.requires.1))))

pub returns-in-Err-clause-run : goal.returns-in-Err-clause-run
returns-in-Err-clause-run g c =
    open_runs _ _ _ _ _ _ _ _ c.in-Open.is
    (runs_on _ _ _ _ _ _ (runs_kept c.args.self.now _ _ _ _ _ _ c.in-Err.ensures.gives)
    (c.refused.ensures.run _ _ _))

pub returns-in-Ok-clause-went : goal.returns-in-Ok-clause-went
returns-in-Ok-clause-went g c = λ went.
    inl (gave_one _ _ _ _ _ _ _ c.in-Open.is c.in-Ok.ensures.gives)
