use Rattle.std.proofs.Common.{◌≡◌, ◌++◌, None, length}
use Rattle.std.specs.Vec.Iter.{into_iter_items, into_iter_len}
use Rattle.connection.specs.Heard.{ReadsWith}
use Rattle.connection.proofs.reader.Reader.heed.Given as goal

-- the events so far were heard, and they and those to come are all
abbrev pub invariant-events : goal.invariant-events
invariant-events g l =
    ReadsWith g.M.Answering.known g.M.Answering.names l.fn.intake l.intake l.yielded None
    l.fn.self.reading l.fn.self.orders l.self.reading l.self.orders
    × (l.yielded ++ into_iter_items l.event-iterator ≡ l.fn.events.items)
    × (into_iter_len l.event-iterator ≡ length (into_iter_items l.event-iterator))
