use Rattle.std.proofs.Common.{List, ℕ, ◌++◌, ◌∙◌, ap, refl, rules}
use Rattle.h2frame.specs.Spelling.{spelled}
use Rattle.writerloop.proofs.WroteSteps.{parts-on}
use Rattle.writerloop.proofs.frames.Frames.part.Goals as goal

pub returns-clause-wrote : goal.returns-clause-wrote
returns-clause-wrote g c =
    parts-on g.L.Lane.got g.W.ConnWrite.contents g.W.ConnWrite.failed c.args.last
    c.in-Some.frame c.args.self.now
    (record c.args.self.now { core = c.farewell.new.self; buffer = c.append_to.new.out })
    c.in-Some.ensures.goaway (search rules) c.in-Some.ensures.leads refl refl
    (c.append_to.ensures
    ∙ ap (λ (b : List ℕ). b ++ spelled c.in-Some.frame) c.reserve.ensures.items) refl
