use Rattle.std.proofs.Common.{subst}
use Rattle.handlers.specs.Listed.{listed}
use Rattle.callworker.specs.Leaving.{MayBeLeft, word_in}
use Rattle.callworker.specs.declared.worker.AfterTurn.{AfterTurn}
use Rattle.callworker.proofs.Turns.{goes_none, goes_then, one_call_none, one_call_then}
use Rattle.callworker.proofs.worker.Worker.run.Goals as goal

pub turns-init : goal.turns-init
turns-init g c = record {
  goes_on = goes_none _ _ (listed c.args.methods.now) c.args.run.now;
  same = one_call_none c.args.run.now;
  left = λ before. before;
}

pub turns-preserved : goal.turns-preserved
turns-preserved g c = record {
  goes_on =
      goes_then _ _ (listed c.args.methods.now) c.args.run.now c.turns.run c.step.new.run
      c.turns.invariant.same.2 c.turns.invariant.goes_on c.step.ensures.goes_on;
  same =
      one_call_then c.args.run.now c.turns.run c.step.new.run c.turns.invariant.same
      c.step.ensures.same;
  left = λ before.
      subst (λ (turn : AfterTurn). MayBeLeft c.step.new.run (word_in turn)) c.in-GoesOn.is
      (c.step.ensures.left (c.turns.invariant.left before));
}

pub returns-in-Over-clause-goes_on : goal.returns-in-Over-clause-goes_on
returns-in-Over-clause-goes_on g c =
    goes_then _ _ (listed c.args.methods.now) c.args.run.now c.turns.run c.step.new.run
    c.turns.invariant.same.2 c.turns.invariant.goes_on c.step.ensures.goes_on

pub returns-in-Over-clause-same : goal.returns-in-Over-clause-same
returns-in-Over-clause-same g c =
    one_call_then c.args.run.now c.turns.run c.step.new.run c.turns.invariant.same
    c.step.ensures.same

pub returns-in-NotLive-clause-goes_on : goal.returns-in-NotLive-clause-goes_on
returns-in-NotLive-clause-goes_on g c =
    goes_then _ _ (listed c.args.methods.now) c.args.run.now c.turns.run c.step.new.run
    c.turns.invariant.same.2 c.turns.invariant.goes_on c.step.ensures.goes_on

pub returns-in-NotLive-clause-same : goal.returns-in-NotLive-clause-same
returns-in-NotLive-clause-same g c =
    one_call_then c.args.run.now c.turns.run c.step.new.run c.turns.invariant.same
    c.step.ensures.same

pub returns-in-Over-clause-left : goal.returns-in-Over-clause-left
returns-in-Over-clause-left g c = λ before.
    subst (λ (turn : AfterTurn). MayBeLeft c.step.new.run (word_in turn)) c.in-Over.is
    (c.step.ensures.left (c.turns.invariant.left before))
