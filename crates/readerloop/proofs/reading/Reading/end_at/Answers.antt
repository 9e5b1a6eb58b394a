use Rattle.std.proofs.Common.{[], ◌∷◌, refl, sym}
use Rattle.outwriter.specs.declared.control.WriterOrder.TheVariants.{Goaway}
use Rattle.readerloop.specs.Orders.{named, named_with}
use Rattle.readerloop.specs.Steps.{is_draining}
use Rattle.readerloop.proofs.ReadingSteps.{counted, counts-begun, decides-begun, goaway-order}
use Rattle.readerloop.proofs.reading.Reading.end_at.Goals as goal

pub returns-clause-ends : goal.returns-clause-ends
returns-clause-ends g c = λ sent told step begins ends orders.
    let count = c.count-goaway.ensures in
    let last = named_with c.args.id (is_draining told) (named told) in
    let counts =
    counts-begun told step c.args.id _ c.args.self.now c.count-goaway.new.self
    count.counts begins in
    decides-begun told step c.args.id _ (Goaway last c.args.reason ∷ []) c.args.self.now
    c.count-goaway.new.self
    (counted _ _ count.rest) count.counts
    (goaway-order c.goaway.result c.count-goaway.new.self.last last c.args.reason
    c.goaway.ensures.order counts.0.last_is) orders (sym ends) refl begins
