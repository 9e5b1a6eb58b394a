use Rattle.std.proofs.Common.{◌≡◌}
use Rattle.connection.specs.Puts.{DropsNone, put_of}
use Rattle.connection.proofs.orders.Orders.close.Given as goal

-- the last order wasn't put yet
abbrev pub invariant-tries : goal.invariant-tries
invariant-tries g l =
    (put_of l.self ≡ put_of l.fn.self) × DropsNone l.fn.self l.self
