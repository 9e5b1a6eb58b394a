use Rattle.std.proofs.Common.{◌∙◌, None, Some, arith}
use Rattle.outwriter.specs.Polls.{coming}
use Rattle.writerloop.proofs.WroteSteps.{fills-then}
use Rattle.writerloop.proofs.frames.Frames.fill_on.Goals as goal

pub returns-in-Some-clause-wrote : goal.returns-in-Some-clause-wrote
returns-in-Some-clause-wrote g c =
    fills-then g.L.Lane.got g.W.ConnWrite.contents g.W.ConnWrite.failed
    (coming g.L.Lane.got g.L.Lane.ahead) (Some c.in-Some.filled) c.args.self.now _
    c.add_frame.new.self c.frames.invariant.fills c.in-Some.ensures.wrote

pub frames-preserved : goal.frames-preserved
frames-preserved g c = record {
  fills =
      fills-then g.L.Lane.got g.W.ConnWrite.contents g.W.ConnWrite.failed
      (coming g.L.Lane.got g.L.Lane.ahead) None c.args.self.now _ c.add_frame.new.self
      c.frames.invariant.fills c.in_default.ensures.wrote;
  room = λ small. omega (arith, c.in_default.ensures.fits);
  going = c.in_default.ensures.goes (λ e. cc);
  device = c.in_default.ensures.device ∙ c.frames.invariant.device;
  left = c.in_default.ensures.left ∙ c.frames.invariant.left;
  senders = c.in_default.ensures.senders ∙ c.frames.invariant.senders;
  gave = λ id gave. c.in_default.ensures.gave id (c.frames.invariant.gave id gave);
}
