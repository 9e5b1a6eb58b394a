use Rattle.std.proofs.Common.{refl, sym, ◌∙◌}
use Rattle.session.specs.declared.event.InEvent.TheVariants as events
use Rattle.readerloop.specs.Steps.{Admitted, Told}
use Rattle.readerloop.proofs.Heard.{err-any}
use Rattle.readerloop.proofs.ReadingSteps.{begins-with, reads-same}
use Rattle.readerloop.proofs.reading.Reading.engage.Goals as goal

pub returns-clause-engaged : goal.returns-clause-engaged
returns-clause-engaged g c = λ sent told reads.
    let rest = c.start.ensures.rest in
    c.begin.ensures.decides sent told
    (Told (events.Open c.args.request.id c.args.request.head) Admitted)
    (begins-with told _ c.args.request.id c.args.self.now _ refl rest.draining rest.last
    rest.begun rest.goaway
    (λ kept. c.in_ok-opening.ensures.heard sent told (sym reads.drains ∙ c.requires.next.2) kept)
    reads) refl refl

pub returns-in_err-opening-clause-stays : goal.returns-in_err-opening-clause-stays
returns-in_err-opening-clause-stays g c = err-any c.from_residual.result _ (λ sent told reads.
    let rest = c.start.ensures.rest in
    reads-same told c.args.self.now _ rest.draining rest.last rest.begun rest.goaway
    (λ kept. c.in_err-opening.ensures.kept sent told kept) reads)
