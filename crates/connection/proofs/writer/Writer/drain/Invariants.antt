use Rattle.std.proofs.Common.{◌≡◌}
use Rattle.writerloop.specs.Written.{LeadsOn}
use Rattle.connection.proofs.writer.Writer.drain.Given as goal

abbrev pub invariant-orders : goal.invariant-orders
invariant-orders g l =
    LeadsOn g.W.ConnWrite.contents g.W.ConnWrite.failed l.fn.self.writing l.self.writing
    × (l.self.outlet ≡ l.fn.self.outlet)
