use Rattle.std.proofs.Common.{arith, ap, length, length-append, ◌∷◌, [], ◌∙◌}
use Rattle.rtrb.specs.Ring.{sent}
use Rattle.lane.specs.Steps.{pieces}
use Rattle.lane.specs.Second.{put_in as second_put_in, seen_taken as second_seen_taken}
use Rattle.lane.proofs.LinkLemmas.{first_alone, none_second}
use Rattle.lane.proofs.ring_lane.RingLaneIn.grow.Goals as goal

pub hand_over-requires-clause-bound : goal.hand_over-requires-clause-bound
hand_over-requires-clause-bound g c =
    let tx = c.args.self.now in
    let alone =
    ap length (first_alone second_put_in (pieces (sent tx.first)) tx.second c.requires.first) in
    let unseen = none_second second_seen_taken tx.second c.requires.first in
    let more = ap length (c.meet-one.ensures.writer.1 ∙ c.place.ensures.put) in
    let long = length-append (second_put_in c.in-Ok.ends.0) (c.args.item ∷ []) in
    let empty = ap length c.in-Ok.ensures.empty.0 in
    let room = c.requires.room in
    omega arith
