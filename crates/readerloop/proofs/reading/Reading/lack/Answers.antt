use Rattle.std.proofs.Common.{refl}
use Rattle.session.specs.declared.event.InEvent.TheVariants as events
use Rattle.readerloop.specs.Steps.{Lacking, Told}
use Rattle.readerloop.proofs.Heard.{idle-open}
use Rattle.readerloop.proofs.ReadingSteps.{begins-idle}
use Rattle.readerloop.proofs.reading.Reading.lack.Goals as goal

pub returns-clause-lacking : goal.returns-clause-lacking
returns-clause-lacking g c = λ head sent told reads.
    c.end_at.ensures.ends sent told (Told (events.Open c.args.id head) Lacking)
    (begins-idle told _ c.args.id _ refl (idle-open c.args.id head Lacking refl) reads) refl refl
