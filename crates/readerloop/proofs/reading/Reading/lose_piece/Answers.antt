use Rattle.std.proofs.Common.{refl}
use Rattle.connbook.specs.declared.answers.Receipt.TheVariants.{Discard}
use Rattle.session.specs.declared.event.InEvent.TheVariants as events
use Rattle.readerloop.specs.Steps.{Received, Told}
use Rattle.readerloop.proofs.ReadingSteps.{quiet, reads-idle, reads-step}
use Rattle.readerloop.proofs.StepLemmas.{
  closes-missed,
  concerns-data,
  empty-of,
  idle-discard,
  some-of,
}
use Rattle.readerloop.proofs.reading.Reading.lose_piece.Goals as goal

pub returns-then-is_empty-clause-reads : goal.returns-then-is_empty-clause-reads
returns-then-is_empty-clause-reads g c = λ counted sent told reads.
    reads-idle told _ _ (quiet _ refl refl) (idle-discard c.args.id counted c.args.piece.now
    (empty-of c.is_empty.result c.args.piece.now c.is_empty.ensures c.if-is_empty.true)) reads

pub returns-clause-reads : goal.returns-clause-reads
returns-clause-reads g c = λ counted sent told reads.
    let piece = c.args.piece.now in
    let some = some-of c.is_empty.result piece c.is_empty.ensures c.if-is_empty.false in
    reads-step told _ c.args.self.now _ (quiet _ refl refl) refl refl refl refl
    (c.miss.ensures.heard sent (Told (events.Data c.args.id piece counted) (Received Discard))
    (concerns-data c.args.id counted piece (Received Discard))
    (closes-missed c.args.id counted piece some) told) reads
