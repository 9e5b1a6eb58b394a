use Rattle.std.proofs.Common.{refl, inl}
use Rattle.callbox.specs.InSides.{TakesMessages}
use Rattle.callrun.proofs.Taking.{taken_run, opened_run, by_nothing}
use Rattle.callrun.proofs.call_run.CallRun.take.Goals as goal

pub returns-in-Nothing-clause-run : goal.returns-in-Nothing-clause-run
returns-in-Nothing-clause-run g c = λ messages took run.
    taken_run (λ ms. TakesMessages (g.I.Lane.got c.take.new.self.rx) c.take.new.self.progress ms)
    c.take.result _ messages _ _ (c.take.ensures.took messages took)
    (opened_run _ _ _ _ _ _ _ _ _ _ _ _ c.requires.open
    (λ given before.
    by_nothing _ _ c.take.result _ _ _ messages given c.in-Nothing.is
    c.take.ensures.tells before) run)

pub returns-in_default : goal.returns-in_default
returns-in_default g c = record {
  run = λ messages took run.
      taken_run (λ ms. TakesMessages (g.I.Lane.got c.take.new.self.rx) c.take.new.self.progress ms)
      c.take.result _ messages _ _ (c.take.ensures.took messages took)
      (opened_run _ _ _ _ _ _ _ _ _ _ _ _ c.requires.open
      (λ given before. c.answer.ensures.run _ _ messages given c.take.ensures.tells before) run);
  in_name = c.take.ensures.name;
  same = (refl, refl, refl, c.answer.ensures.same);
  turn = inl refl;
  went = λ went.
      (c.take.result, c.in_default.not-Nothing, c.take.ensures.tells, c.take.ensures.took);
  nothing = λ same. absurd (cc);
}
