use Rattle.writerloop.specs.Written.{Stays}
use Rattle.writerloop.proofs.writing.Writing.release_through.Given as goal

abbrev pub invariant-calls : goal.invariant-calls
invariant-calls g l = Stays g.W.ConnWrite.contents g.W.ConnWrite.failed l.fn.self l.self
