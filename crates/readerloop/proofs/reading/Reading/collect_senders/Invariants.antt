use Rattle.readerloop.specs.Readings.{HasCollected}
use Rattle.readerloop.proofs.reading.Reading.collect_senders.Given as goal

-- what came back so far
abbrev pub invariant-senders : goal.invariant-senders
invariant-senders g l = HasCollected g.M.Answering.known g.M.Answering.names l.fn.self l.self
