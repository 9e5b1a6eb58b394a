use Rattle.std.proofs.Common.{arith, ap, length, ◌∙◌}
use Rattle.rtrb.specs.Ring.{sent}
use Rattle.lane.specs.Steps.{pieces}
use Rattle.lane.specs.Second.{put_in as second_put_in, seen_taken as second_seen_taken}
use Rattle.lane.proofs.StepLemmas.{count_steps, links}
use Rattle.lane.proofs.LinkLemmas.{no_link, first_alone, none_second}
use Rattle.lane.proofs.ring_lane.RingLaneIn.look.Goals as goal

pub returns-then-has_room-clause-room : goal.returns-then-has_room-clause-room
returns-then-has_room-clause-room g c =
    let tx = c.has_room.new.self in
    let none = c.has_room.ensures.second ∙ c.requires.first in
    let no_links = ap links (no_link _ _ _ _ tx.linked none) in
    let steps = count_steps (sent tx.first) tx.closed in
    let alone = ap length (first_alone second_put_in (pieces (sent tx.first)) tx.second none) in
    let unseen = none_second second_seen_taken tx.second none in
    let free = c.has_room.ensures.free c.if-has_room.true in
    let counts = tx.first.counts in
    omega arith
