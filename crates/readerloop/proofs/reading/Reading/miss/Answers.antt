use Rattle.connbook.specs.declared.answers.Receipt.TheVariants.{Discard}
use Rattle.session.specs.declared.event.InEvent.TheVariants as events
use Rattle.readerloop.specs.Steps.{Received, Told}
use Rattle.readerloop.proofs.ReadingSteps.{decides-now, no-order}
use Rattle.readerloop.proofs.reading.Reading.miss.Goals as goal

pub returns-clause-decides : goal.returns-clause-decides
returns-clause-decides g c = λ counted sent told reads.
    let done = c.nothing.ensures in
    decides-now told (Told (events.Data c.args.id c.args.piece.now counted) (Received Discard))
    c.nothing.result _ (no-order c.nothing.result done.0 done.1) done.3 done.2
    (c.lose_piece.ensures.reads counted sent told reads)
