use Rattle.std.proofs.Common.{subst}
use Rattle.callrun.specs.Runs.{HasCome}
use Rattle.callrun.specs.Sides.{shown}
use Rattle.callrun.proofs.Ahead.{same_hand, with_none}
use Rattle.callrun.proofs.Steps.{left_leaves, runs_left}
use Rattle.callrun.proofs.Taking.{if_is, step_run}
use Rattle.callrun.proofs.call_run.CallRun.leave.Goals as goal

pub returns-clause-run : goal.returns-clause-run
returns-clause-run g c = if_is _ _ _ c.in-Some.ensures (λ messages come.
    subst (λ m.
    HasCome ((g.dyn-1.0.entry m.0).1.answers m.1) ((g.dyn-1.0.entry m.0).1.stands m.1)
    c.args.self.now.taker.progress.told messages c.args.self.now.call c.args.self.now.in_hand
    (shown (λ giver. g.O.Lane.put_in giver.tx) (λ s. g.O.Lane.put_shut s.shut)
    (λ s. g.O.Lane.was_placed s.shut) c.args.self.now.response)
    → HasCome ((g.dyn-1.0.entry m.0).1.answers m.1) ((g.dyn-1.0.entry m.0).1.stands m.1)
    c.args.self.now.taker.progress.told messages c.hand_over.new.self c.take-in_hand.new.self
    (shown (λ giver. g.O.Lane.put_in giver.tx) (λ s. g.O.Lane.put_shut s.shut)
    (λ s. g.O.Lane.was_placed s.shut) c.leave.new.self))
    c.deref_box-1.ensures.1
    (λ before. with_none _ messages _ _ _ c.take-in_hand.ensures.after
    (step_run _ messages _ _ _ _ (runs_left c.hand_over.new.self _ _ _ _ _ c.leave.ensures)
    (c.hand_over.ensures.run _ _ _ _ messages
    (same_hand _ messages _ _ _ _ c.take-in_hand.ensures.value before))))
    come)

pub returns-clause-leaves : goal.returns-clause-leaves
returns-clause-leaves g c = left_leaves _ _ _ _ _ c.leave.ensures
