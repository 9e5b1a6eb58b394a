use Rattle.std.proofs.Common.{◌∙◌, refl, sym}
use Rattle.session.specs.declared.event.InEvent.TheVariants as events
use Rattle.readerloop.specs.Steps.{NoWorker, Told, Unserved}
use Rattle.readerloop.proofs.ReadingSteps.{begins-with}
use Rattle.readerloop.proofs.reading.Reading.lose.Goals as goal

pub returns-clause-unserved : goal.returns-clause-unserved
returns-clause-unserved g c = λ head named sent told reads.
    c.end_at.ensures.ends sent told (Told (events.Open c.args.id head) (Unserved NoWorker))
    (begins-with told _ c.args.id c.args.self.now _ refl refl refl refl refl
    (λ kept.
    c.pass_over.ensures.heard sent head NoWorker told named (sym reads.drains ∙ c.requires.next.2)
    kept) reads) refl refl
