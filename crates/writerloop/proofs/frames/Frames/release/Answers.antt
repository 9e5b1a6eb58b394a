use Rattle.std.proofs.Common.{ap}
use Rattle.writerloop.proofs.WroteSteps.{returned-on}
use Rattle.writerloop.proofs.frames.Frames.release.Goals as goal

pub returns-clause-wrote : goal.returns-clause-wrote
returns-clause-wrote g c =
    returned-on g.L.Lane.got g.W.ConnWrite.contents g.W.ConnWrite.failed c.args.id c.args.self.now
    c.release.new.self c.release.result c.release.ensures.leads

pub returns-clause-lives : goal.returns-clause-lives
returns-clause-lives g c = ap (λ core. core.is_dead) c.release.ensures.rest
