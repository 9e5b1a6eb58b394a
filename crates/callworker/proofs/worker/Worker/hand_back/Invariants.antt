use Rattle.std.proofs.Common.{◌≡◌}
use Rattle.lane.specs.RingEnds.{producer_name}
use Rattle.rtrb.specs.Ring.{sent}
use Rattle.callworker.proofs.worker.Worker.hand_back.Given as goal

-- nothing was put yet
abbrev pub invariant-looks : goal.invariant-looks
invariant-looks g l =
    (producer_name l.done ≡ producer_name l.fn.done) × (sent l.done ≡ sent l.fn.done)
    × (l.finished ≡ l.fn.finished)
