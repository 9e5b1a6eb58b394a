use Rattle.h2frame.proofs.Lists.{joined_more}
use Rattle.h2frame.proofs.reader.FrameReader.feed.Goals as goal

pub returns-clause-list : goal.returns-clause-list
returns-clause-list c = λ bytes entries joined.
    rw (c.in_ok-extend.ensures.ok, c.self.view_is)
    (joined_more bytes entries c.args.self.now c.args.piece.now joined)
