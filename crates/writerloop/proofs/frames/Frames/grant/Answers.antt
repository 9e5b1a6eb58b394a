use Rattle.std.proofs.Common.{[], ◌∷◌, refl}
use Rattle.outwriter.specs.Steps.{Granted}
use Rattle.writerloop.proofs.WroteSteps.{core-on}
use Rattle.writerloop.proofs.frames.Frames.grant.Goals as goal

pub returns-clause-wrote : goal.returns-clause-wrote
returns-clause-wrote g c =
    core-on g.L.Lane.got g.W.ConnWrite.contents g.W.ConnWrite.failed
    (Granted c.args.id c.args.n ∷ []) c.args.self.now c.grant.new.self (λ run. refl)
    c.grant.ensures.leads
