use Rattle.results.specs.Renewals.{failed_entry}
use Rattle.results.proofs.RenewalLemmas.{renewed_more}
use Rattle.results.proofs.renewal.failed.Goals as goal

pub loop-outcome-preserved : goal.loop-outcome-preserved
loop-outcome-preserved c =
    renewed_more (failed_entry c.args.outcomes.now) _ c.args.outcomes.now
    c.loop-outcome.outcome-index c.outcome-item.result _ _
    c.loop-outcome-test.true c.outcome-item.is
    c.loop-outcome.invariant c.in_ok-push_failed.ensures
