use Rattle.writerloop.specs.Written.{LeadsTo}
use Rattle.connection.proofs.writer.Writer.write.Given as goal

abbrev pub invariant-turns : goal.invariant-turns
invariant-turns g l =
    LeadsTo g.W.ConnWrite.contents g.W.ConnWrite.failed l.fn.self.outlet l.fn.self.writing
    l.writer.outlet l.writer.writing
