use Rattle.std.proofs.Common.{◌≡◌}
use Rattle.readerloop.specs.Readings.{KeepsNext}
use Rattle.connection.specs.Heard.{Collects}
use Rattle.connection.proofs.reader.Reader.settle_all.Given as goal

-- more may have come home
abbrev pub invariant-calls : goal.invariant-calls
invariant-calls g l =
    Collects g.M.Answering.known g.M.Answering.names l.fn.self.reading l.self.reading
    × KeepsNext l.fn.self.reading l.self.reading
    × (l.self.reading.is_draining ≡ l.fn.self.reading.is_draining)
    × (l.self.orders ≡ l.fn.self.orders)
