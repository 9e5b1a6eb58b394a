use Rattle.std.proofs.Common.{◌≡◌}
use Rattle.connection.specs.Puts.{DropsNone, put_of}
use Rattle.connection.proofs.orders.Orders.put_backlog.Given as goal

-- the same is put, or to be put
abbrev pub invariant-orders : goal.invariant-orders
invariant-orders g l =
    (put_of l.self ≡ put_of l.fn.self) × DropsNone l.fn.self l.self
