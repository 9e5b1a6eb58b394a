use Rattle.std.proofs.Common.{arith, ap, length}
use Rattle.rtrb.specs.Ring.{sent}
use Rattle.lane.specs.Steps.{pieces}
use Rattle.lane.specs.Linked.{kept}
use Rattle.lane.specs.Second.{put_in as second_put_in, seen_taken as second_seen_taken}
use Rattle.lane.proofs.StepLemmas.{count_steps, links}
use Rattle.lane.proofs.LinkLemmas.{no_link, first_alone, none_second}
use Rattle.lane.proofs.ring_lane.RingLaneIn.check_waiting.Goals as goal

pub returns-then-waiting-self-clause-full : goal.returns-then-waiting-self-clause-full
returns-then-waiting-self-clause-full g c =
    let tx = c.args.self.now in
    let no_links = ap links (no_link _ _ _ _ tx.linked c.requires.first) in
    let steps = count_steps (sent tx.first) tx.closed in
    let alone =
    ap length (first_alone second_put_in (pieces (sent tx.first)) tx.second c.requires.first) in
    let unseen = none_second second_seen_taken tx.second c.requires.first in
    let one = ap kept c.requires.first in
    let counts = tx.first.counts in
    (omega arith, omega arith)

pub returns-clause-room : goal.returns-clause-room
returns-clause-room g c =
    let tx = c.args.self.now in
    let no_links = ap links (no_link _ _ _ _ tx.linked c.requires.first) in
    let steps = count_steps (sent tx.first) tx.closed in
    let alone =
    ap length (first_alone second_put_in (pieces (sent tx.first)) tx.second c.requires.first) in
    let unseen = none_second second_seen_taken tx.second c.requires.first in
    let one = ap kept c.requires.first in
    let counts = tx.first.counts in
    omega arith
