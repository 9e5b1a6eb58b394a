use Rattle.handlers.specs.Listed.{listed}
use Rattle.callworker.proofs.Turns.{goes_credited, goes_then, one_call_credited, one_call_then}
use Rattle.callworker.proofs.worker.Worker.step.Goals as goal

pub returns-in_default-clause-goes_on : goal.returns-in_default-clause-goes_on
returns-in_default-clause-goes_on g c =
    goes_then _ _ (listed c.args.methods.now) c.args.run.now c.look-turn.new.run c.look_if_live.new.run
    c.look-turn.ensures.same.2 c.look-turn.ensures.goes_on
    (goes_credited _ _ (listed c.args.methods.now) c.look-turn.new.run c.look_if_live.new.run
    c.look_if_live.ensures.rx c.look_if_live.ensures.none c.look_if_live.ensures.same)

pub returns-in_default-clause-same : goal.returns-in_default-clause-same
returns-in_default-clause-same g c =
    one_call_then c.args.run.now c.look-turn.new.run c.look_if_live.new.run c.look-turn.ensures.same
    (one_call_credited c.look-turn.new.run c.look_if_live.new.run c.look_if_live.ensures.rx
    c.look_if_live.ensures.same)

pub returns-in-Some-clause-goes_on : goal.returns-in-Some-clause-goes_on
returns-in-Some-clause-goes_on g c =
    goes_then _ _ (listed c.args.methods.now) c.args.run.now c.look-turn.new.run c.give_up.new.run
    c.look-turn.ensures.same.2 c.look-turn.ensures.goes_on
    (goes_then _ _ (listed c.args.methods.now) c.look-turn.new.run c.look_if_live.new.run
    c.give_up.new.run c.look_if_live.ensures.same.0
    (goes_credited _ _ (listed c.args.methods.now) c.look-turn.new.run c.look_if_live.new.run
    c.look_if_live.ensures.rx c.look_if_live.ensures.none c.look_if_live.ensures.same)
    c.give_up.ensures.goes_on)

pub returns-in-Some-clause-same : goal.returns-in-Some-clause-same
returns-in-Some-clause-same g c =
    one_call_then c.args.run.now c.look-turn.new.run c.give_up.new.run c.look-turn.ensures.same
    (one_call_then c.look-turn.new.run c.look_if_live.new.run c.give_up.new.run
    (one_call_credited c.look-turn.new.run c.look_if_live.new.run c.look_if_live.ensures.rx
    c.look_if_live.ensures.same)
    c.give_up.ensures.same)
