use Rattle.writerloop.proofs.WroteSteps.{stopped-on}
use Rattle.writerloop.proofs.frames.Frames.stop.Goals as goal

pub returns-in-Going-clause-wrote : goal.returns-in-Going-clause-wrote
returns-in-Going-clause-wrote g c =
    stopped-on g.L.Lane.got g.W.ConnWrite.contents g.W.ConnWrite.failed
    c.args.self.now c.in-Going.is
