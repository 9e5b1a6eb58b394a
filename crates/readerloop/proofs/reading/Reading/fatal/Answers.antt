use Rattle.std.proofs.Common.{ℕ, ◌∷◌, ◌∙◌, [], Some, ap, refl}
use Rattle.callparts.specs.declared.report.Ending.TheVariants as ending
use Rattle.session.specs.declared.event.InEvent.TheVariants as events
use Rattle.h2frame.specs.declared.error_code.ErrorCode.{ErrorCode}
use Rattle.outwriter.specs.declared.control.WriterOrder.TheVariants.{Goaway}
use Rattle.outwriter.specs.Steps.{order_of}
use Rattle.readerloop.specs.Steps.{Plain, Told}
use Rattle.readerloop.proofs.Heard.{idle-fatal}
use Rattle.readerloop.proofs.ReadingSteps.{decides-now, one-order, quiet, reads-idle}
use Rattle.readerloop.proofs.reading.Reading.fatal.Goals as goal

pub returns-clause-decides : goal.returns-clause-decides
returns-clause-decides g c = λ sent told reads.
    let done = c.order.ensures in
    let decided = record c.order.result { ends = Some (ending.ProtocolError c.code.result) } in
    decides-now told (Told (events.Fatal c.args.reason) Plain) decided c.args.self.now
    (one-order decided _ done.0 done.1
    ∙ (ap (λ order. order_of order ∷ []) c.goaway.ensures.order
    ∙ ap (λ (last : ℕ). Goaway last c.args.reason ∷ []) reads.counts.last_is))
    (ap (λ (code : ErrorCode). Some (ending.ProtocolError code)) c.code.ensures) done.2
    (reads-idle told _ _ (quiet _ refl refl) (idle-fatal c.args.reason) reads)
