use Rattle.std.proofs.Common.{Option, None, refl, subst}
use Rattle.h2frame.specs.declared.frame.Frame.{Frame}
use Rattle.outwriter.specs.StreamLooks.{Picks}
use Rattle.outwriter.proofs.RunStateSteps.{but-open}
use Rattle.outwriter.proofs.ServeStepsCore.{gives-then, picks-after, picks-then}
use Rattle.outwriter.proofs.sending.Sending.frame_in_turn.Goals as goal

pub loop-preserved : goal.loop-preserved
loop-preserved g c =
    let start = record c.loop.self { ready = c.pop_front.new.self } in
    let looked = c.look.new.self in
    let left = record looked { outbound = record looked.outbound { states = c.turn.new.self } } in (
      picks-then g.L.Lane.got c.args.self.now start left None c.loop.invariant.0
          (picks-after g.L.Lane.got start looked left None (subst
          (λ (o : Option Frame). Picks g.L.Lane.got o start looked) c.in_default-2.is
          c.in_ok-frame.ensures.picks)
          c.turn.ensures.hands
          (but-open looked.outbound c.turn.new.self c.turn.ensures.stands) refl),
      gives-then g.L.Lane.got g.L.Lane.out_name c.args.self.now start left c.loop.invariant.1
          c.look.ensures.gives,
    )
