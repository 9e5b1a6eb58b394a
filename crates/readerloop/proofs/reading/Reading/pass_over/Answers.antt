use Rattle.std.proofs.Common.{◌∙◌, [], ap, refl, sym}
use Rattle.session.specs.declared.event.InEvent.TheVariants as events
use Rattle.readerloop.specs.Readings.{order_in}
use Rattle.readerloop.specs.Steps.{Stopped, Told, Unserved}
use Rattle.readerloop.proofs.ReadingSteps.{begins-with, counted, decides-begun}
use Rattle.readerloop.proofs.reading.Reading.pass_over.Goals as goal

pub returns-clause-decides : goal.returns-clause-decides
returns-clause-decides g c = λ head named sent told reads.
    let count = c.count-goaway.ensures in
    let done = c.nothing.ensures in
    decides-begun told (Told (events.Open c.args.id head) (Unserved Stopped)) c.args.id _ [] _ _
    (counted _ _ count.rest) count.counts
    (ap (λ found. order_in found) done.1) refl done.3 done.2
    (begins-with told _ c.args.id c.args.self.now _ refl refl refl refl refl
    (λ kept.
    c.pass_over.ensures.heard sent head Stopped told named
    (sym reads.drains ∙ c.requires.next.2) kept) reads)
