use Rattle.std.proofs.Common.{refl}
use Rattle.session.specs.declared.event.InEvent.TheVariants as events
use Rattle.readerloop.specs.Steps.{Plain, Told}
use Rattle.readerloop.proofs.ReadingSteps.{quiet, reads-step}
use Rattle.readerloop.proofs.StepLemmas.{closes-end, concerns-end}
use Rattle.readerloop.proofs.reading.Reading.end_half.Goals as goal

pub returns-clause-reads : goal.returns-clause-reads
returns-clause-reads g c = λ sent told reads.
    reads-step told (Told (events.End c.args.id) Plain) c.args.self.now _ (quiet _ refl refl)
    refl refl refl refl
    (c.shut-worker.ensures.heard sent (Told (events.End c.args.id) Plain) (concerns-end c.args.id)
    (closes-end c.args.id) told) reads
