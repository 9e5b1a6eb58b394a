use Rattle.std.proofs.Common.{◌≡◌}
use Rattle.connection.specs.Heard.{Collects}
use Rattle.connection.specs.Puts.{DropsNone, put_of}
use Rattle.connection.proofs.reader.Reader.close.Given as goal

-- nothing was put yet
abbrev pub invariant-tries : goal.invariant-tries
invariant-tries g l =
    Collects g.M.Answering.known g.M.Answering.names l.fn.self.reading l.self.reading
    × (put_of l.self.orders ≡ put_of l.fn.self.orders)
    × DropsNone l.fn.self.orders l.self.orders
