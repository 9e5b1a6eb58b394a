use Rattle.std.proofs.Common.{refl, sym, ◌∙◌}
use Rattle.callrun.proofs.Steps.{open_runs, true_false}
use Rattle.callrun.proofs.Items.{runs_shut}
use Rattle.callrun.proofs.call.Call.finish.Goals.{
  else-not-has_head-via-then-not-has_head+else-not-is_short,
  else-not-has_head-via-else-not-has_head,
}
use Rattle.callrun.proofs.call.Call.finish.Goals as goal

pub returns-in-Ok-clause-run : goal.returns-in-Ok-clause-run
returns-in-Ok-clause-run g c =
    open_runs _ _ _ _ _ _ _ _ c.in-Open.is
    (runs_shut c.args.self.now _ _ c.has_head-has_head.result c.in-Ok.fields c.in-Ok.code
    (c.shut.ensures.ends refl) c.requires c.in-Ok.ensures
    (sym c.has_head-has_head.ensures.head) c.has_head-has_head.ensures.none
    (λ none. elim c.else-not-has_head.branch [
      | else-not-has_head-via-then-not-has_head+else-not-is_short w ↦
          sym w.is_short.ensures ∙ w.if-not-is_short.false
      | else-not-has_head-via-else-not-has_head w ↦
          absurd (true_false c.has_head-has_head.result w.if-not-has_head.false none)
    ]))

pub returns-in-Err-clause-run : goal.returns-in-Err-clause-run
returns-in-Err-clause-run g c = open_runs _ _ _ _ _ _ _ _ c.in-Open.is (c.run_out.ensures.run _ _ _)
