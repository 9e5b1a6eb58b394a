use Rattle.std.proofs.Common.{refl}
use Rattle.h2frame.proofs.Lists.{joined_more}
use Rattle.h2frame.proofs.reader.FrameReader.read_from.Goals as goal

pub returns-clause-ok : goal.returns-clause-ok
returns-clause-ok g c =
    let read = c.in_ok-count.ensures.ok in
    rw (read.2, c.in_ok-most.ensures.items, c.self.view_is) (
      read.0,
      read.1,
      read.3,
      refl,
      (λ bytes entries joined. joined_more bytes entries _ read.0 joined),
    )
