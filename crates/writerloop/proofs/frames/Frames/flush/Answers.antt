use Rattle.std.proofs.Common.{◌≡◌, [], refl}
use Rattle.writerloop.specs.declared.standing.Standing.TheVariants.{Broken}
use Rattle.writerloop.proofs.WroteSteps.{broken-on, flushed-on}
use Rattle.writerloop.proofs.frames.Frames.flush.Goals as goal

pub returns-in-Ok-clause-wrote : goal.returns-in-Ok-clause-wrote
returns-in-Ok-clause-wrote g c =
    let none_left : c.swap.new.y.items ≡ [] =
    cc (c.swap.ensures.y_after, c.clear-in-Ok.ensures.items) in
    flushed-on g.L.Lane.got g.W.ConnWrite.contents g.W.ConnWrite.failed c.args.self.now
    (record {
      core = c.args.self.now.core;
      buffer = c.clear.new.self;
      ended = c.swap.new.y;
      flushed_ends = c.swap.new.x;
      streams = c.clear-in-Ok-2.new.self;
      standing = c.args.self.now.standing;
      device = c.write_all.new.output;
    })
    c.in_default.not-Broken refl refl c.clear.ensures.items none_left
    (rw c.as_slice.ensures at c.in-Ok.ensures.ok)

pub returns-in-Err-clause-wrote : goal.returns-in-Err-clause-wrote
returns-in-Err-clause-wrote g c =
    broken-on g.L.Lane.got g.W.ConnWrite.contents g.W.ConnWrite.failed c.args.self.now
    (record c.args.self.now { standing = Broken; device = c.write_all.new.output })
    c.in_default.not-Broken refl refl c.in-Err.ensures.marked
    (rw c.as_slice.ensures at c.in-Err.ensures.prefix)
