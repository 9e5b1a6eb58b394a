use Rattle.std.proofs.Common.{◌≡◌}
use Rattle.readerloop.specs.Readings.{KeepsNext}
use Rattle.connection.specs.Heard.{Collects}
use Rattle.connection.proofs.reader.Reader.start.Given as goal

-- nothing was heard meanwhile
abbrev pub invariant-looks : goal.invariant-looks
invariant-looks g l =
    Collects g.M.Answering.known g.M.Answering.names l.fn.self.reading l.self.reading
    × KeepsNext l.fn.self.reading l.self.reading
    × (l.self.orders ≡ l.fn.self.orders)
