use Rattle.std.proofs.Common.{rules, arith, ap, length}
use Rattle.rtrb.specs.Ring.{sent}
use Rattle.lane.proofs.StepLemmas.{push_next, is_closed}
use Rattle.lane.proofs.LinkLemmas.{no_link, linked_some}
use Rattle.lane.proofs.ring_lane.RingLaneIn.hand_over.Goals as goal

pub invariant_of-self : goal.invariant_of-self
invariant_of-self g c =
    let tx = c.args.self.now in
    let pushed = c.push_reserved.ensures.sent in
    let more = push_next (sent tx.first) _ c.args.fresh pushed.0 in
    let none = no_link _ _ _ _ tx.linked c.requires.first in
    let same = ap length more.items in
    let all = more.all in
    record {
      fits = search rules;
      places = search rules;
      filled = omega arith;
      one_free = omega arith;
      counted = omega arith;
      closed = is_closed (sent tx.first) _ c.args.fresh pushed.0 none;
      linked = linked_some _ _ _ c.args.fresh c.args.tx more.way c.requires.name;
      same_room = search rules;
      bound = omega arith;
    }

pub returns-clause-pieces : goal.returns-clause-pieces
returns-clause-pieces g c =
    (push_next (sent c.args.self.now.first) _ c.args.fresh c.push_reserved.ensures.sent.0).items

pub returns-clause-seen : goal.returns-clause-seen
returns-clause-seen g c =
    let more =
    push_next (sent c.args.self.now.first) _ c.args.fresh c.push_reserved.ensures.sent.0 in
    let same = ap length more.items in
    let all = more.all in
    omega arith
