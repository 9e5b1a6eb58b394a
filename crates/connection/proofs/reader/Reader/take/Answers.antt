use Rattle.connection.proofs.HeardActs.{with-rung}
use Rattle.connection.proofs.reader.Reader.take.Goals as goal

pub returns-then-is_none : goal.returns-then-is_none
returns-then-is_none g c = record {
  reads =
      with-rung _ _ _ _ _ _ _ _ _ _ c.wake_threads.ensures.reading c.wake_threads.ensures.same
      c.heed-end.ensures.reads;
}
