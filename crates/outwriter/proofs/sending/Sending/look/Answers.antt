use Rattle.std.proofs.Common.{None, subst}
use Rattle.outwriter.specs.declared.stream.NextData.{NextData}
use Rattle.outwriter.specs.Polls.{coming}
use Rattle.outwriter.specs.StreamLooks.{LooksAt, Picks, frame_in}
use Rattle.outwriter.proofs.ServeStepsCore.{gives-then, picks-then}
use Rattle.outwriter.proofs.StuckSteps.{leaves-then, gets-then}
use Rattle.outwriter.proofs.sending.Sending.look.Goals as goal

pub loop-preserved : goal.loop-preserved
loop-preserved g c = (
  picks-then g.L.Lane.got c.args.self.now c.loop.self c.look_once.new.self None c.loop.invariant.0
      (subst (λ (l : NextData). Picks g.L.Lane.got (frame_in l) c.loop.self c.look_once.new.self)
      c.in-Empty.is c.in_ok-frame.ensures.picks),
  gives-then g.L.Lane.got g.L.Lane.out_name c.args.self.now c.loop.self c.look_once.new.self
      c.loop.invariant.1 c.look_once.ensures.gives,
  leaves-then g.L.Lane.got (coming g.L.Lane.got g.L.Lane.ahead) c.args.self.now c.loop.self
      c.look_once.new.self c.args.id c.loop.invariant.0.3 c.loop.invariant.2
      (subst (λ (l : NextData).
      LooksAt g.L.Lane.got (coming g.L.Lane.got g.L.Lane.ahead) c.args.id l c.loop.self
      c.look_once.new.self) c.in-Empty.is c.in_ok-frame.ensures.looks),
)

pub returns-in-Nothing-clause-quiet : goal.returns-in-Nothing-clause-quiet
returns-in-Nothing-clause-quiet g c =
    gets-then g.L.Lane.got (coming g.L.Lane.got g.L.Lane.ahead) c.args.self.now c.loop.self
    c.look_once.new.self c.args.id c.loop.invariant.0.3 c.loop.invariant.2
    (subst (λ (l : NextData).
    LooksAt g.L.Lane.got (coming g.L.Lane.got g.L.Lane.ahead) c.args.id l c.loop.self
    c.look_once.new.self) c.in-Nothing.is c.in_ok-frame.ensures.looks)
