use Rattle.std.proofs.Common.{◌∙◌}
use Rattle.handlers.specs.Listed.{listed}
use Rattle.callworker.proofs.Turns.{
  goes_left,
  goes_none,
  goes_then,
  one_call_left,
  one_call_none,
  one_call_then,
  one_call_turned,
}
use Rattle.callworker.proofs.worker.Worker.give_up.Goals as goal

pub turns-init : goal.turns-init
turns-init g c = record {
  goes_on = goes_none _ _ (listed c.args.methods.now) c.args.run.now;
  same = one_call_none c.args.run.now;
}

pub turns-preserved : goal.turns-preserved
turns-preserved g c = record {
  goes_on =
      goes_then _ _ (listed c.args.methods.now) c.args.run.now c.turns.run c.turn.new.self
      c.turns.invariant.same.2 c.turns.invariant.goes_on c.turn.ensures.run;
  same =
      one_call_then c.args.run.now c.turns.run c.turn.new.self c.turns.invariant.same
      (one_call_turned c.turns.run c.turn.new.self _ c.turn.ensures.in_name c.turn.ensures.name
      c.turn.ensures.same c.turn.ensures.overdue);
}

pub returns-in-Over-clause-goes_on : goal.returns-in-Over-clause-goes_on
returns-in-Over-clause-goes_on g c =
    goes_then _ _ (listed c.args.methods.now) c.args.run.now c.turns.run c.turn.new.self
    c.turns.invariant.same.2 c.turns.invariant.goes_on c.turn.ensures.run

pub returns-in-Over-clause-same : goal.returns-in-Over-clause-same
returns-in-Over-clause-same g c =
    one_call_then c.args.run.now c.turns.run c.turn.new.self c.turns.invariant.same (one_call_turned
    c.turns.run c.turn.new.self _ c.turn.ensures.in_name c.turn.ensures.name c.turn.ensures.same
    c.turn.ensures.overdue)

pub returns-in-Nothing-clause-goes_on : goal.returns-in-Nothing-clause-goes_on
returns-in-Nothing-clause-goes_on g c =
    goes_then _ _ (listed c.args.methods.now) c.args.run.now c.turns.run c.leave.new.self
    c.turns.invariant.same.2 c.turns.invariant.goes_on
    (goes_then _ _ (listed c.args.methods.now) c.turns.run c.turn.new.self c.leave.new.self
    c.turn.ensures.same.0 c.turn.ensures.run
    (goes_left _ _ (listed c.args.methods.now) c.turn.new.self c.leave.new.self
    c.leave.ensures.same.1 c.leave.ensures.run))

pub returns-in-Nothing-clause-same : goal.returns-in-Nothing-clause-same
returns-in-Nothing-clause-same g c =
    one_call_then c.args.run.now c.turns.run c.leave.new.self c.turns.invariant.same
    (one_call_then c.turns.run c.turn.new.self c.leave.new.self (one_call_turned c.turns.run
    c.turn.new.self _ c.turn.ensures.in_name c.turn.ensures.name c.turn.ensures.same
    c.turn.ensures.overdue)
    (one_call_left c.turn.new.self c.leave.new.self c.leave.ensures.name c.leave.ensures.same))
