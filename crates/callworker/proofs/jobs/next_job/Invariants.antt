use Rattle.std.proofs.Common.{◌≡◌}
use Rattle.rtrb.specs.Ring.{received}
use Rattle.lane.specs.RingEnds.{consumer_name}
use Rattle.callworker.proofs.jobs.next_job.Given as goal

-- nothing was taken yet
abbrev pub invariant-looks : goal.invariant-looks
invariant-looks g l =
    (consumer_name l.tasks ≡ consumer_name l.fn.tasks) × (received l.tasks ≡ received l.fn.tasks)
