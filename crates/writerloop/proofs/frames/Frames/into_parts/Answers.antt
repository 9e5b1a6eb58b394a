use Rattle.writerloop.proofs.WroteSteps.{wrote-all, wrote-front}
use Rattle.writerloop.proofs.frames.Frames.into_parts.Goals as goal

pub returns-clause-prefix : goal.returns-clause-prefix
returns-clause-prefix g c = λ before run w.
    wrote-front g.L.Lane.got g.W.ConnWrite.contents g.W.ConnWrite.failed before run c.args.self w

pub returns-clause-fronts : goal.returns-clause-fronts
returns-clause-fronts g c = λ before run w. c.into_senders.ensures.fronts run w.leads

pub returns-clause-all : goal.returns-clause-all
returns-clause-all g c = λ sound empty before run w.
    wrote-all g.L.Lane.got g.W.ConnWrite.contents g.W.ConnWrite.failed before run
    c.args.self sound empty w
