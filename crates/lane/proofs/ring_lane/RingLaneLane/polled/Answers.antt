use Rattle.std.proofs.Common.{refl}
use Rattle.lane.proofs.KnownItems.{lent_last}
use Rattle.lane.specs.RingLane.{got}
use Rattle.lane.proofs.ring_lane.RingLaneLane.polled.Goals as goal

pub returns : goal.returns
returns g c = (
  (
    refl,
    λ _. tt,
    (
      refl,
      refl,
      refl,
      lent_last c.as_ref.result c.args.rx.now.polled (got c.args.rx.now) c.as_ref.ensures.value
          c.args.rx.now.kept,
    ),
  ),
  record { after = tt },
)
