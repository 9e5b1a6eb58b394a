use Rattle.std.proofs.Common.{◌∙◌, sym, subst}
use Rattle.std.specs.Prelude.{MatchOption, ◌+◌, ◌≤◌}
use Rattle.creditbook.specs.Books.{Books, call_at}
use Rattle.connbook.proofs.StepLemmas.{fed}
use Rattle.connbook.proofs.steps.count.Goals as goal

pub return_padding-requires-clause-live : goal.return_padding-requires-clause-live
return_padding-requires-clause-live c =
    subst (λ (b : Books).
    MatchOption (call_at b c.args.id) ⊥
    (λ call. call.counts.returned + c.args.padding ≤ call.counts.received))
    (sym c.count_live-in-Feed.ensures.value)
    (fed c.args.book.now c.args.id c.args.flow c.args.padding c.requires.law c.requires.padding
    (sym c.requires.receipt ∙ c.in-Feed.is))
