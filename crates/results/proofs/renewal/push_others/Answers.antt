use Rattle.results.specs.Renewals.{unrun_entry}
use Rattle.results.proofs.RenewalLemmas.{renewed_more}
use Rattle.results.proofs.renewal.push_others.Goals as goal

pub loop-other-preserved : goal.loop-other-preserved
loop-other-preserved c =
    renewed_more (unrun_entry c.args.outcomes.now) _ c.args.known.now c.loop-other.other-index
    c.other-item.result _ _ c.loop-other-test.true c.other-item.is
    c.loop-other.invariant c.in_ok-push_unrun.ensures
