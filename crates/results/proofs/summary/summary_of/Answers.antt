use Rattle.std.proofs.Common.{refl}
use Rattle.results.proofs.SummaryLemmas.{all_once, levels_once}
use Rattle.results.proofs.summary.summary_of.Goals as goal

pub returns-clause-exact : goal.returns-clause-exact
returns-clause-exact c =
    rw (
      c.count_of.ensures,
      c.count_of-2.ensures,
      c.failures.ensures,
      c.failures-2.ensures,
      c.failures-3.ensures,
      c.count_of-3.ensures,
      c.count_of-4.ensures,
      c.count_of-5.ensures,
      c.standing_count.ensures,
      c.standing_count-2.ensures,
      c.failure_count.ensures,
    ) refl

pub returns-clause-once : goal.returns-clause-once
returns-clause-once c =
    rw (
      c.count_of.ensures,
      c.count_of-2.ensures,
      c.count_of-3.ensures,
      c.count_of-4.ensures,
      c.count_of-5.ensures,
      c.standing_count.ensures,
      c.standing_count-2.ensures,
    ) (all_once c.args.outcomes.now)

pub returns-clause-levels : goal.returns-clause-levels
returns-clause-levels c =
    rw (c.count_of-2.ensures, c.failures.ensures, c.failures-2.ensures, c.failures-3.ensures)
    (levels_once c.args.outcomes.now)
