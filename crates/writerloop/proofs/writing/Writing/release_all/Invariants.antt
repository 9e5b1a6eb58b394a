use Rattle.writerloop.specs.Written.{Stays}
use Rattle.writerloop.proofs.writing.Writing.release_all.Given as goal

abbrev pub invariant-ended : goal.invariant-ended
invariant-ended g l = Stays g.W.ConnWrite.contents g.W.ConnWrite.failed l.fn.self l.self
