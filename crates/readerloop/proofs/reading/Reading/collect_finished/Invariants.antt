use Rattle.readerloop.specs.Readings.{HasCollected}
use Rattle.readerloop.proofs.reading.Reading.collect_finished.Given as goal

-- what came back so far
abbrev pub invariant-workers : goal.invariant-workers
invariant-workers g l = HasCollected g.M.Answering.known g.M.Answering.names l.fn.self l.self
