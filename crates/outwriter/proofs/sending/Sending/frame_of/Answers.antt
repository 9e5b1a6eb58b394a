use Rattle.std.proofs.Common.{Option, Some, refl, subst}
use Rattle.h2frame.specs.declared.frame.Frame.{Frame}
use Rattle.outwriter.specs.StreamLooks.{Picks}
use Rattle.outwriter.proofs.RunStateSteps.{but-open}
use Rattle.outwriter.proofs.ServeStepsCore.{picks-after}
use Rattle.outwriter.proofs.sending.Sending.frame_of.Goals as goal

pub returns-clause-picks : goal.returns-clause-picks
returns-clause-picks g c =
    let looked = c.look.new.self in
    picks-after g.L.Lane.got c.args.self.now looked (record looked {
      outbound = record looked.outbound { states = c.take_turns.new.states };
      ready = c.take_turns.new.ready;
    }) (Some c.in-Some.frame)
    (subst (λ (o : Option Frame). Picks g.L.Lane.got o c.args.self.now looked) c.in-Some.is
    c.in_ok-frame.ensures.picks)
    c.take_turns.ensures.hands
    (but-open looked.outbound c.take_turns.new.states c.take_turns.ensures.stands) refl
