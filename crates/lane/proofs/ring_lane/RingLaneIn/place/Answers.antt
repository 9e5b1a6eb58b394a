use Rattle.std.proofs.Common.{rules, arith, ap, length}
use Rattle.rtrb.specs.Ring.{sent}
use Rattle.lane.specs.Steps.{link}
use Rattle.lane.specs.Linked.{of_second, kept}
use Rattle.lane.specs.Second.{put_in as second_put_in}
use Rattle.lane.proofs.StepLemmas.{push_piece, stays_closed, count_steps, links}
use Rattle.lane.proofs.LinkLemmas.{no_link, linked_same}
use Rattle.lane.proofs.ring_lane.RingLaneIn.place.Goals as goal

pub invariant_of-self : goal.invariant_of-self
invariant_of-self g c =
    let tx = c.args.self.now in
    let pushed = c.push_reserved.ensures.sent in
    let more = push_piece (sent tx.first) _ c.args.item pushed.0 in
    let none = no_link _ _ _ _ tx.linked c.requires.first in
    let steps = count_steps (sent tx.first) tx.closed in
    let no_links = ap links none in
    let no_put = ap (λ next. length (of_second second_put_in next)) c.requires.first in
    let free = ap kept c.requires.first in
    let len = more.len in
    let all = more.all in
    record {
      fits = search rules;
      places = search rules;
      filled = omega arith;
      one_free = omega arith;
      counted = omega arith;
      closed = stays_closed (sent tx.first) _ c.args.item pushed.0 none;
      linked = linked_same _ _ (link (sent tx.first)) _ tx.second more.way tx.linked;
      same_room = search rules;
      bound = omega arith;
    }

pub returns-clause-seen : goal.returns-clause-seen
returns-clause-seen g c =
    let more =
    push_piece (sent c.args.self.now.first) _ c.args.item c.push_reserved.ensures.sent.0 in
    let len = more.len in
    let all = more.all in
    omega arith

pub returns-clause-sent : goal.returns-clause-sent
returns-clause-sent g c =
    (push_piece (sent c.args.self.now.first) _ c.args.item c.push_reserved.ensures.sent.0).items
