use Rattle.reasons.specs.declared.Reason.TheVariants as reason
use Rattle.std.proofs.Common.{◌∷◌, ◌∙◌, [], ℕ, ap, refl}
use Rattle.h2frame.specs.declared.error_code.ErrorCode.TheVariants.{NoError}
use Rattle.outwriter.specs.declared.control.WriterOrder.TheVariants.{Goaway}
use Rattle.outwriter.specs.Steps.{order_of}
use Rattle.readerloop.specs.Kept.{accounts_of, unsettled}
use Rattle.readerloop.specs.Steps.{Drains}
use Rattle.readerloop.proofs.Heard.{idle-drains}
use Rattle.readerloop.proofs.KeptSteps.{kept-idle}
use Rattle.readerloop.proofs.ReadingSteps.{decides-now, one-order, reads-drain}
use Rattle.readerloop.proofs.reading.Reading.drain.Goals as goal

pub returns-clause-decides : goal.returns-clause-decides
returns-clause-decides g c = λ sent told reads.
    let done = c.order.ensures in
    let calls = c.args.self.now.calls in
    let last = reads.calls.top in
    decides-now told Drains c.order.result _
    (one-order c.order.result _ done.0 done.1
    ∙ (ap (λ order. order_of order ∷ []) c.goaway.ensures.order
    ∙ ap (λ (n : ℕ). Goaway n (reason.Code NoError) ∷ []) last))
    done.3 done.2 (reads-drain told c.args.self.now _ last refl refl refl (λ kept.
    kept-idle told Drains (unsettled calls) (accounts_of calls) calls.last idle-drains kept) reads)
