use Rattle.std.proofs.Common.{◌++◌, ◌∙◌, List, ℕ, inl, inr, subst, sym}
use Rattle.callbox.specs.InSides.{TakesMessages}
use Rattle.callrun.specs.Runs.{HasCome, HasRun}
use Rattle.callrun.specs.Sides.{shown}
use Rattle.callrun.proofs.Ahead.{kept_come, same_hand, then_none}
use Rattle.callrun.proofs.Taking.{if_is, kept_run, step_run}
use Rattle.callrun.proofs.Went.{ran_out_so}
use Rattle.callrun.proofs.call_run.CallRun.turn.Goals as goal

pub returns-then-not-is_open-clause-run : goal.returns-then-not-is_open-clause-run
returns-then-not-is_open-clause-run g c = if_is _ _ _ c.in-Some.ensures (λ messages took come.
    kept_come
    (λ ms. TakesMessages (g.I.Lane.got c.args.self.now.taker.rx) c.args.self.now.taker.progress ms)
    _ messages _ _ _ took come)

pub returns-in-Some-first-clause-run : goal.returns-in-Some-first-clause-run
returns-in-Some-first-clause-run g c = if_is _ _ _ c.in-Some.ensures (λ messages took come.
    subst (λ m.
    HasCome ((g.dyn-1.0.entry m.0).1.answers m.1) ((g.dyn-1.0.entry m.0).1.stands m.1)
    c.args.self.now.taker.progress.told messages c.args.self.now.call c.args.self.now.in_hand
    (shown (λ giver. g.O.Lane.put_in giver.tx) (λ s. g.O.Lane.put_shut s.shut)
    (λ s. g.O.Lane.was_placed s.shut) c.args.self.now.response)
    → (more : List (List ℕ))
    × TakesMessages (g.I.Lane.got c.args.self.now.taker.rx) c.args.self.now.taker.progress
    (messages ++ more)
    × HasCome ((g.dyn-1.0.entry m.0).1.answers m.1) ((g.dyn-1.0.entry m.0).1.stands m.1)
    c.args.self.now.taker.progress.told (messages ++ more) c.give.new.self c.take-in_hand.new.self
    (shown (λ giver. g.O.Lane.put_in giver.tx) (λ s. g.O.Lane.put_shut s.shut)
    (λ s. g.O.Lane.was_placed s.shut) c.give.new.response))
    c.deref_box-1.ensures.1
    (λ before.
    then_none
    (λ ms. TakesMessages (g.I.Lane.got c.args.self.now.taker.rx) c.args.self.now.taker.progress ms)
    _ messages _ _ _ c.take-in_hand.ensures.after
    (kept_run
    (λ ms. TakesMessages (g.I.Lane.got c.args.self.now.taker.rx) c.args.self.now.taker.progress ms)
    _ messages _ _ took
    (step_run _ messages _ _ _ _ c.give.ensures.run (step_run _ messages _ _ _ _
    (c.look_at.ensures.run _) (c.hand_over.ensures.run _ _ _ _ messages
    (same_hand _ messages _ _ _ _ c.take-in_hand.ensures.value before))))))
    come)

pub returns-then-is_some-clause-run : goal.returns-then-is_some-clause-run
returns-then-is_some-clause-run g c = if_is _ _ _ c.in-Some.ensures (λ messages took come.
    subst (λ m.
    HasCome ((g.dyn-1.0.entry m.0).1.answers m.1) ((g.dyn-1.0.entry m.0).1.stands m.1)
    c.args.self.now.taker.progress.told messages c.args.self.now.call c.args.self.now.in_hand
    (shown (λ giver. g.O.Lane.put_in giver.tx) (λ s. g.O.Lane.put_shut s.shut)
    (λ s. g.O.Lane.was_placed s.shut) c.args.self.now.response)
    → (more : List (List ℕ))
    × TakesMessages (g.I.Lane.got c.args.self.now.taker.rx) c.args.self.now.taker.progress
    (messages ++ more)
    × HasCome ((g.dyn-1.0.entry m.0).1.answers m.1) ((g.dyn-1.0.entry m.0).1.stands m.1)
    c.args.self.now.taker.progress.told (messages ++ more) c.finish.new.self c.take-in_hand.new.self
    (shown (λ giver. g.O.Lane.put_in giver.tx) (λ s. g.O.Lane.put_shut s.shut)
    (λ s. g.O.Lane.was_placed s.shut) c.finish.new.response))
    c.deref_box-1.ensures.1
    (λ before.
    then_none
    (λ ms. TakesMessages (g.I.Lane.got c.args.self.now.taker.rx) c.args.self.now.taker.progress ms)
    _ messages _ _ _ c.take-in_hand.ensures.after
    (kept_run
    (λ ms. TakesMessages (g.I.Lane.got c.args.self.now.taker.rx) c.args.self.now.taker.progress ms)
    _ messages _ _ took
    (step_run _ messages _ _ _ _ c.finish.ensures.run (step_run _ messages _ _ _ _
    (c.look_at.ensures.run _) (c.hand_over.ensures.run _ _ _ _ messages
    (same_hand _ messages _ _ _ _ c.take-in_hand.ensures.value before))))))
    come)

pub returns-clause-run : goal.returns-clause-run
returns-clause-run g c = if_is _ _ _ c.in-Some.ensures (λ messages took come.
    subst (λ m.
    HasCome ((g.dyn-1.0.entry m.0).1.answers m.1) ((g.dyn-1.0.entry m.0).1.stands m.1)
    c.args.self.now.taker.progress.told messages c.args.self.now.call c.args.self.now.in_hand
    (shown (λ giver. g.O.Lane.put_in giver.tx) (λ s. g.O.Lane.put_shut s.shut)
    (λ s. g.O.Lane.was_placed s.shut) c.args.self.now.response)
    → (more : List (List ℕ))
    × TakesMessages (g.I.Lane.got c.take.new.self.taker.rx) c.take.new.self.taker.progress
    (messages ++ more)
    × HasCome ((g.dyn-1.0.entry m.0).1.answers m.1) ((g.dyn-1.0.entry m.0).1.stands m.1)
    c.take.new.self.taker.progress.told (messages ++ more) c.take.new.self.call
    c.take.new.self.in_hand
    (shown (λ giver. g.O.Lane.put_in giver.tx) (λ s. g.O.Lane.put_shut s.shut)
    (λ s. g.O.Lane.was_placed s.shut) c.take.new.self.response))
    c.deref_box-2.ensures.1
    (λ before.
    then_none
    (λ ms. TakesMessages (g.I.Lane.got c.take.new.self.taker.rx) c.take.new.self.taker.progress ms)
    _ messages _ _ _ (c.take.ensures.same.1 ∙ c.take-in_hand.ensures.after)
    (c.take.ensures.run messages took (step_run _ messages _ _ _ _ (c.look_at.ensures.run _)
    (subst (λ m.
    HasRun ((g.dyn-1.0.entry m.0).1.answers m.1) ((g.dyn-1.0.entry m.0).1.stands m.1)
    c.args.self.now.taker.progress.told messages c.hand_over.new.self
    (shown (λ giver. g.O.Lane.put_in giver.tx) (λ s. g.O.Lane.put_shut s.shut)
    (λ s. g.O.Lane.was_placed s.shut) c.args.self.now.response))
    (c.deref_box-1.ensures.1 ∙ sym c.deref_box-2.ensures.1)
    (c.hand_over.ensures.run _ _ _ _ messages
    (same_hand _ messages _ _ _ _ c.take-in_hand.ensures.value
    (subst (λ m.
    HasCome ((g.dyn-1.0.entry m.0).1.answers m.1) ((g.dyn-1.0.entry m.0).1.stands m.1)
    c.args.self.now.taker.progress.told messages c.args.self.now.call c.args.self.now.in_hand
    (shown (λ giver. g.O.Lane.put_in giver.tx) (λ s. g.O.Lane.put_shut s.shut)
    (λ s. g.O.Lane.was_placed s.shut) c.args.self.now.response))
    (c.deref_box-2.ensures.1 ∙ sym c.deref_box-1.ensures.1) before)))))))
    come)

pub returns-in-Some-first-clause-went : goal.returns-in-Some-first-clause-went
returns-in-Some-first-clause-went g c = λ went. elim (c.give.ensures.went went) [
  | inl gave ↦ inl gave
  | inr runs ↦
      inr (inr (ran_out_so c.args.self.now.call c.hand_over.new.self c.look_at.new.self
      c.give.new.self c.hand_over.ensures.lacks c.hand_over.ensures.same.2 c.look_at.ensures.newly
      c.give.ensures.same.2 runs))
]

pub returns-then-is_some-clause-went : goal.returns-then-is_some-clause-went
returns-then-is_some-clause-went g c = λ went. elim (c.finish.ensures.went went) [
  | inl gave ↦ inl gave
  | inr runs ↦
      inr (inr (ran_out_so c.args.self.now.call c.hand_over.new.self c.look_at.new.self
      c.finish.new.self c.hand_over.ensures.lacks c.hand_over.ensures.same.2 c.look_at.ensures.newly
      c.finish.ensures.same.2 runs))
]

pub returns-clause-went : goal.returns-clause-went
returns-clause-went g c = λ went. inr (inl (c.take.ensures.went went))
