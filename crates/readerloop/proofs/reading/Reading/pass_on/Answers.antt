use Rattle.std.proofs.Common.{◌∷◌, ◌∙◌, [], ap, refl}
use Rattle.outwriter.specs.Steps.{Order}
use Rattle.session.specs.declared.event.InEvent.TheVariants as events
use Rattle.readerloop.specs.Steps.{Plain, Told}
use Rattle.readerloop.proofs.Heard.{idle-control}
use Rattle.readerloop.proofs.ReadingSteps.{decides-now, one-order, quiet, reads-idle}
use Rattle.readerloop.proofs.reading.Reading.pass_on.Goals as goal

pub returns : goal.returns
returns g c = record {
  decides = λ sent told reads.
      let done = c.order.ensures in
      decides-now told (Told (events.Control c.args.news) Plain) c.order.result _
      (one-order c.order.result _ done.0 done.1
      ∙ ap (λ (order : Order). order ∷ []) c.order_of_news.ensures) done.3 done.2
      (reads-idle told _ _ (quiet _ refl refl) (idle-control c.args.news) reads);
}
