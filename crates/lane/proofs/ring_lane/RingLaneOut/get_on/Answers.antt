use Rattle.rtrb.specs.Ring.{received}
use Rattle.lane.specs.Steps.{pieces, link}
use Rattle.lane.specs.Second.{got as second_got}
use Rattle.lane.proofs.LinkLemmas.{linked_moved, last_second}
use Rattle.lane.proofs.ring_lane.RingLaneOut.get_on.Goals as goal

pub invariant_of-self-2 : goal.invariant_of-self-2
invariant_of-self-2 g c =
    let rx = c.args.self.now in
    record {
      counted = rx.counted;
      linked =
          linked_moved _ _ (link (received rx.first)) rx.second c.in-Some.second c.poll.new.self
          c.in-Some.is c.poll.ensures.name rx.linked;
      kept =
          last_second second_got (pieces (received rx.first)) c.in-Some.second c.poll.new.self
          c.in-Some-poll.item c.in-Some-poll.ensures.got;
    }
