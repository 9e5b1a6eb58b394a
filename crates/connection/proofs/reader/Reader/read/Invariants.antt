use Rattle.std.proofs.Common.{◌≡◌, ℕ, List, []}
use Rattle.std.specs.Io.KnownBytes.{Consumes}
use Rattle.lane.specs.Ring.{taken}
use Rattle.session.specs.declared.event.InEvent.{InEvent}
use Rattle.session.specs.CoreStates.{Reached}
use Rattle.readerloop.specs.Calls.{SentItems}
use Rattle.readerloop.specs.Reports.{AreCalm}
use Rattle.readerloop.specs.Steps.{Step, events_of}
use Rattle.connection.specs.Heard.{AreCarried, Grows, KeptFor}
use Rattle.connection.specs.Limits.{Covers}
use Rattle.connection.proofs.reader.Reader.read.Given as goal

-- all events of the bytes so far were heard
abbrev pub invariant-pieces : goal.invariant-pieces
invariant-pieces g l = Grows l.fn.self.reading l.self.reading
    × ((sent : List SentItems) → AreCarried sent (taken l.self.reading.home)
    → KeptFor g.M.Answering.known g.M.Answering.names sent [] l.fn.self.reading l.fn.self.orders
    → (came : List ℕ) × (given : List InEvent) × (told : List Step)
    × Consumes (g.I.ConnRead.remaining l.fn.input) (g.I.ConnRead.remaining l.input) came
    × Reached came given l.core × (events_of told ≡ given) × AreCalm told
    × KeptFor g.M.Answering.known g.M.Answering.names sent told l.self.reading l.self.orders
    × Covers told l.intake)
