use Rattle.std.proofs.Common.{refl, sym, true≢false}
use Rattle.readerloop.proofs.ReadingSteps.{counts-none}
use Rattle.readerloop.proofs.reading.Reading.new.Goals as goal

pub returns-clause-reads : goal.returns-clause-reads
returns-clause-reads g c = λ sent. record {
  calls = c.new.ensures.kept sent;
  drains = refl;
  counts = counts-none _ refl refl;
  goaway = λ is. absurd (true≢false (sym is));
}
