use Rattle.std.proofs.Common.{refl, ap, ◌∙◌}
use Rattle.callworker.proofs.Handing.{no_more, none_yet, one_more}
use Rattle.callworker.proofs.worker.Worker.work.Goals as goal

pub calls-init : goal.calls-init
calls-init g c = record {
  tasks = refl;
  done = refl;
  handed_back =
      none_yet (λ job. job.number.value) (λ finished. finished.number.value) _ _ c.requires.unused.0
      c.requires.unused.1;
}

pub calls-preserved : goal.calls-preserved
calls-preserved g c = record {
  tasks = c.in-Some-next_job.ensures.name ∙ c.calls.invariant.tasks;
  done = c.hand_back.ensures.name ∙ c.calls.invariant.done;
  handed_back =
      one_more (λ job. job.number.value) (λ finished. finished.number.value) _ _ _ _
      c.in-Some-next_job.job _
      c.in-Some-next_job.ensures.taken c.hand_back.ensures.sent
      (ap (λ number. number.value) c.answer-finished.ensures.number) c.calls.invariant.handed_back;
}

pub returns-in_default-clause-handed_back : goal.returns-in_default-clause-handed_back
returns-in_default-clause-handed_back g c =
    no_more (λ job. job.number.value) (λ finished. finished.number.value) _ _ _
    c.in_default.ensures.taken c.calls.invariant.handed_back
