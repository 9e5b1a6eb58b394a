use Rattle.std.proofs.Common.{ℕ, ◌∷◌, ◌∙◌, [], Some, ap, refl}
use Rattle.callparts.specs.declared.report.Ending.TheVariants as ending
use Rattle.reasons.specs.declared.Reason.TheVariants as reason
use Rattle.outwriter.specs.declared.control.WriterOrder.TheVariants.{Goaway}
use Rattle.outwriter.specs.Steps.{order_of}
use Rattle.readerloop.specs.Steps.{Lacks}
use Rattle.readerloop.proofs.Heard.{idle-lacks}
use Rattle.readerloop.proofs.ReadingSteps.{decides-now, one-order, quiet, reads-idle}
use Rattle.readerloop.proofs.reading.Reading.run_out.Goals as goal

pub returns-clause-decides : goal.returns-clause-decides
returns-clause-decides g c = λ sent told reads.
    let done = c.order.ensures in
    let decided = record c.order.result { ends = Some ending.OutOfMemory } in
    decides-now told Lacks decided c.args.self.now
    (one-order decided _ done.0 done.1
    ∙ (ap (λ order. order_of order ∷ []) c.goaway.ensures.order
    ∙ ap (λ (last : ℕ). Goaway last reason.Memory ∷ []) reads.counts.last_is))
    refl done.2 (reads-idle told _ _ (quiet _ refl refl) idle-lacks reads)
