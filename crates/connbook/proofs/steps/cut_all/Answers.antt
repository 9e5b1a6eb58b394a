use Rattle.std.proofs.Common.{◌∙◌, sym, ap, subst, length, ◌<◌}
use Rattle.creditbook.specs.Books.{Books}
use Rattle.connbook.specs.Receipts.{after_stop}
use Rattle.connbook.proofs.StepLemmas.{cut_first}
use Rattle.connbook.proofs.steps.cut_all.Goals as goal

pub loop-id-smaller : goal.loop-id-smaller
loop-id-smaller c =
    let first = cut_first c.loop-id.book c.in-Some.id (sym c.live_id.ensures ∙ c.in-Some.is) in
    let fewer : length c.cut.new.book.calls < length c.loop-id.book.calls =
    subst (λ (b : Books). length b.calls < length c.loop-id.book.calls)
    (sym c.cut.ensures.value) first.1 in
    fewer

pub loop-id-preserved : goal.loop-id-preserved
loop-id-preserved c =
    let first = cut_first c.loop-id.book c.in-Some.id (sym c.live_id.ensures ∙ c.in-Some.is) in
    record {
      law = c.cut.ensures.law;
      same = ap after_stop c.cut.ensures.value ∙ first.0 ∙ c.loop-id.invariant.same;
    }
