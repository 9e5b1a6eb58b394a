use Rattle.std.proofs.Common.{◌≡◌, length}
use Rattle.connection.proofs.reader.Reader.join_all.Given as goal

-- the workers alone are others
abbrev pub invariant-hands : goal.invariant-hands
invariant-hands g l =
    (l.self.reading ≡ record l.fn.self.reading { workers = l.self.reading.workers })
    × (l.self.orders ≡ l.fn.self.orders)

abbrev pub decreases-hands : goal.decreases-hands
decreases-hands g l = length l.self.hands.items
