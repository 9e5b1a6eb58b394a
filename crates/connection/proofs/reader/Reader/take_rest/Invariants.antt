use Rattle.std.proofs.Common.{◌≡◌, List}
use Rattle.readerloop.specs.Calls.{SentItems, carried_in}
use Rattle.readerloop.specs.Readings.{Reads}
use Rattle.readerloop.specs.Steps.{Step}
use Rattle.connection.specs.Rest.{CarriesRest}
use Rattle.connection.proofs.reader.Reader.take_rest.Given as goal

-- what is left is of those that there were
abbrev pub invariant-senders : goal.invariant-senders
invariant-senders g l =
    (l.rest.sends.home ≡ l.fn.rest.sends.home) × (l.self.reading.home ≡ l.fn.self.reading.home)
    × (l.self.orders ≡ l.fn.self.orders)
    × ((sent : List SentItems) → CarriesRest sent l.fn.rest → CarriesRest sent l.rest)
    × ((sent : List SentItems) (told : List Step) → CarriesRest sent l.fn.rest
    → Reads g.M.Answering.known g.M.Answering.names (carried_in sent) told l.fn.self.reading
    → Reads g.M.Answering.known g.M.Answering.names (carried_in sent) told l.self.reading)
