use Rattle.std.proofs.Common.{refl}
use Rattle.connbook.specs.declared.answers.Receipt.TheVariants.{Feed}
use Rattle.session.specs.declared.event.InEvent.TheVariants as events
use Rattle.readerloop.specs.Steps.{Received, Told}
use Rattle.readerloop.proofs.ReadingSteps.{
  decides-as,
  decides-now,
  fate-fed,
  may-miss,
  no-order,
  quiet,
  reads-same,
  reads-step,
}
use Rattle.readerloop.proofs.reading.Reading.feed.Goals as goal

pub returns-in-Ok-clause-decides : goal.returns-in-Ok-clause-decides
returns-in-Ok-clause-decides g c = λ counted sent told reads.
    let done = c.nothing.ensures in
    let step = Told (events.Data c.args.id c.args.piece counted) (Received Feed) in
    let as_it_is =
    fate-fed c.args.id counted c.args.piece c.nothing.result.order c.nothing.result.ends done.1 in
    decides-as told step _ c.nothing.result _ as_it_is
    (decides-now told step c.nothing.result _
    (no-order c.nothing.result done.0 done.1) done.3 done.2
    (reads-step told step c.args.self.now _ (quiet _ refl refl) refl refl refl refl
    (c.in-Ok.ensures.heard sent counted told) reads))

pub returns-in-Err-clause-decides : goal.returns-in-Err-clause-decides
returns-in-Err-clause-decides g c = λ counted sent told reads.
    c.refuse_piece.ensures.decides c.args.piece counted sent told
    (reads-same told c.args.self.now _ refl refl refl refl (c.in-Err.ensures.stays sent told) reads)

pub returns-in-Ok-clause-missed : goal.returns-in-Ok-clause-missed
returns-in-Ok-clause-missed g c = λ sent told reads.
    may-miss c.args.id c.args.piece told c.nothing.result.order c.nothing.result.ends
    (λ some. let none = c.nothing.ensures.1 in absurd (some none))

pub returns-in-Err-clause-missed : goal.returns-in-Err-clause-missed
returns-in-Err-clause-missed g c = λ sent told reads.
    may-miss c.args.id c.args.piece told c.refuse_piece.result.order c.refuse_piece.result.ends
    (λ some. c.in-Err.ensures.due sent told reads.calls)
