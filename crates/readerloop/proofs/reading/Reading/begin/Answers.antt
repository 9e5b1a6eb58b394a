use Rattle.std.proofs.Common.{◌∙◌, [], ◌∷◌, ap, sym}
use Rattle.outwriter.specs.Steps.{order_of}
use Rattle.readerloop.specs.Readings.{order_in}
use Rattle.readerloop.proofs.ReadingSteps.{counted, decides-begun}
use Rattle.readerloop.proofs.reading.Reading.begin.Goals as goal

pub returns-clause-decides : goal.returns-clause-decides
returns-clause-decides g c = λ sent told step begins calm orders.
    let count = c.count-goaway.ensures in
    let done = c.order.ensures in
    decides-begun told step c.args.id _ (order_of c.args.order ∷ []) c.args.self.now
    c.count-goaway.new.self
    (counted _ _ count.rest) count.counts
    (ap (λ found. order_in found) done.1) orders (done.3 ∙ sym calm) done.2 begins
