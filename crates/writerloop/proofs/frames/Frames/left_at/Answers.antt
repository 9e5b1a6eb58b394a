use Rattle.std.proofs.Common.{[], refl}
use Rattle.writerloop.proofs.WroteSteps.{core-on}
use Rattle.writerloop.proofs.frames.Frames.left_at.Goals as goal

pub returns-clause-wrote : goal.returns-clause-wrote
returns-clause-wrote g c =
    core-on g.L.Lane.got g.W.ConnWrite.contents g.W.ConnWrite.failed [] c.args.self.now
    c.left_at.new.self (λ run. refl) c.left_at.ensures.leads
