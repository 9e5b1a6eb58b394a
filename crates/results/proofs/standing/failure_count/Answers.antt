use Rattle.std.proofs.Common.{◌∙◌, Bor, rules, tests}
use Rattle.std.proofs.lemmas.Iterator.{YieldsList-from_slice}
use Rattle.std.proofs.lemmas.Iterator.Consumers.{YieldsList-from_filter, count_from_yields_List}
use Rattle.std.proofs.lemmas.List.Sums.{length-filter}
use Rattle.results.specs.Standings.{fails_the_run}
use Rattle.results.specs.declared.outcome.Outcome.{Outcome}
use Rattle.results.proofs.standing.failure_count.Goals as goal

pub returns : goal.returns
returns c =
    count_from_yields_List {v = λ (outcome : Bor Outcome). outcome.now} c.filter.result
    c.count.result c.count.ensures.ran
    (YieldsList-from_filter _ fails_the_run (YieldsList-from_slice c.args.outcomes.now (cc))
    c.filter.ensures.closure (λ x b q k. search (rules, tests)))
    ∙ length-filter fails_the_run c.args.outcomes.now
