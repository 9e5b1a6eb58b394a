use Rattle.std.proofs.Common.{true}
use Rattle.connection.specs.Heard.{CutsSome}
use Rattle.connection.proofs.reader.Reader.cut_all.Given as goal

abbrev pub invariant-places : goal.invariant-places
invariant-places g l =
    CutsSome g.M.Answering.known g.M.Answering.names true l.fn.self.reading l.fn.self.orders
    l.self.reading l.self.orders
