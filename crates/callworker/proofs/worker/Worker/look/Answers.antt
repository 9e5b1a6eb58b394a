use Rattle.handlers.specs.Listed.{listed}
use Rattle.callworker.proofs.Turns.{goes_then, one_call_then, one_call_turned}
use Rattle.callworker.proofs.worker.Worker.look.Goals as goal

pub returns-then-ne-clause-same : goal.returns-then-ne-clause-same
returns-then-ne-clause-same g c =
    one_call_turned c.args.run.now c.turn-turn.new.self _ c.turn-turn.ensures.in_name
    c.turn-turn.ensures.name c.turn-turn.ensures.same c.turn-turn.ensures.overdue

pub returns-clause-goes_on : goal.returns-clause-goes_on
returns-clause-goes_on g c =
    goes_then _ _ (listed c.args.methods.now) c.args.run.now c.turn-turn.new.self c.turn.new.self
    c.turn-turn.ensures.same.0 c.turn-turn.ensures.run c.turn.ensures.run

pub returns-clause-same : goal.returns-clause-same
returns-clause-same g c =
    one_call_then c.args.run.now c.turn-turn.new.self c.turn.new.self
    (one_call_turned c.args.run.now c.turn-turn.new.self _ c.turn-turn.ensures.in_name
    c.turn-turn.ensures.name c.turn-turn.ensures.same c.turn-turn.ensures.overdue)
    (one_call_turned c.turn-turn.new.self c.turn.new.self _ c.turn.ensures.in_name
    c.turn.ensures.name c.turn.ensures.same c.turn.ensures.overdue)
