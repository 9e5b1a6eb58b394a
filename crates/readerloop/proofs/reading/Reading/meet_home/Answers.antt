use Rattle.readerloop.proofs.Collecting.{met-home}
use Rattle.readerloop.proofs.reading.Reading.meet_home.Goals as goal

pub returns-clause-came : goal.returns-clause-came
returns-clause-came g c =
    let met = c.meet.ensures in
    met-home _ _ _ _ _ met.reader.1 met.all met.writer.1
