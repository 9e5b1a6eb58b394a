use Rattle.std.proofs.Common.{refl}
use Rattle.writerloop.specs.declared.standing.Standing.TheVariants.{Going}
use Rattle.writerloop.proofs.WroteSteps.{new-wrote}
use Rattle.writerloop.proofs.frames.Frames.new.Goals as goal

pub returns-clause-wrote : goal.returns-clause-wrote
returns-clause-wrote g c =
    new-wrote g.L.Lane.got g.W.ConnWrite.contents g.W.ConnWrite.failed
    (record {
      core = c.new.result;
      buffer = c.new-2.result;
      ended = c.new-3.result;
      flushed_ends = c.new-4.result;
      streams = c.new-5.result;
      standing = Going;
      device = c.args.device;
    })
    refl c.new-2.ensures c.new-3.ensures.items c.new.ensures.leads
