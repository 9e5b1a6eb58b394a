use Rattle.std.proofs.Common.{◌≡◌}
use Rattle.lane.specs.Ring.{put_in}
use Rattle.connection.proofs.orders.Orders.put_in_ring.Given as goal

-- nothing was put yet
abbrev pub invariant-tries : goal.invariant-tries
invariant-tries g l =
    (put_in l.self.outbox.tx ≡ put_in l.fn.self.outbox.tx)
    × (l.self.has_dropped ≡ l.fn.self.has_dropped)
    × (l.self.unput ≡ l.fn.self.unput) × (l.order ≡ l.fn.order)
    × (l.self.backlog ≡ l.fn.self.backlog) × (l.self.has_stopped ≡ l.fn.self.has_stopped)
