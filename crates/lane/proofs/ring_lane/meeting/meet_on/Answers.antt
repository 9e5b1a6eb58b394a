use Rattle.std.proofs.Common.{◌∙◌, arith, ap, sym, length, length-append, rules}
use Rattle.rtrb.specs.Ring.{sent, received, known_items}
use Rattle.lane.specs.Lawful.{count_of}
use Rattle.lane.specs.Steps.{pieces, link, closed}
use Rattle.lane.specs.Linked.{of_second, count_second}
use Rattle.lane.specs.RingEnds.{slots_of}
use Rattle.lane.specs.Second.{
  got as second_got,
  put_in as second_put_in,
  seen_taken as second_seen_taken,
  room_of as second_room_of,
  in_name as second_in_name,
}
use Rattle.lane.proofs.StepLemmas.{together}
use Rattle.lane.proofs.LinkLemmas.{
  linked_kept,
  kept_some,
  kept_unless,
  linked_same,
  linked_moved,
  same_names,
  room_moved,
}
use Rattle.lane.proofs.MeetLemmas.{all_on}
use Rattle.lane.proofs.ring_lane.meeting.meet_on.Goals as goal

pub unreachable-requires : goal.unreachable-requires
unreachable-requires g c =
    let tx = c.args.tx.now in
    let rx = c.args.rx.now in
    let t =
    together (received rx.first) (known_items c.meet_first.new.reading) (sent tx.first)
    c.meet_first.ensures.joined tx.closed in
    let less = t.less in
    let read = linked_kept _ _ _ _ rx.linked in
    let some = kept_some rx.second c.requires.reader in
    let none = kept_unless tx.second c.in_default.not-Some in
    let written = linked_kept _ _ _ _ tx.linked in
    omega arith

pub meet-requires : goal.meet-requires
meet-requires g c =
    let tx = c.args.tx.now in
    let rx = c.args.rx.now in
    let t =
    together (received rx.first) (known_items c.meet_first.new.reading) (sent tx.first)
    c.meet_first.ensures.joined tx.closed in
    let read = linked_kept _ _ _ _ rx.linked in
    let some = kept_some rx.second c.requires.reader in
    same_names _ _ _ (link (received rx.first)) (link (sent tx.first)) tx.second rx.second
    c.in-Some.second c.in-Some-second.out (ap (λ steps. link steps) (t.whole (omega arith)))
    c.in-Some.is c.in-Some-second.is tx.linked rx.linked

pub invariant_of-tx : goal.invariant_of-tx
invariant_of-tx g c =
    let tx = c.args.tx.now in
    let met = c.meet_first.ensures in
    let put = ap (λ steps. length (pieces steps)) met.sent in
    let all = ap length met.sent in
    let slots = ap slots_of met.writer in
    let old_put = ap (λ next. length (of_second second_put_in next)) c.in-Some.is in
    let old_seen = ap (λ next. count_second second_seen_taken next) c.in-Some.is in
    let free = met.free in
    let on = c.meet.ensures in
    let same = ap length on.writer.1 in
    record {
      fits = search rules;
      places = omega arith;
      filled = omega arith;
      one_free = omega arith;
      counted = tx.counted ∙ ap (λ steps. count_of (pieces steps)) (sym met.sent);
      closed = ap closed met.sent ∙ tx.closed;
      linked =
          linked_moved _ _ _ tx.second c.in-Some.second c.meet.new.tx c.in-Some.is on.writer.0
          (linked_same _ _ (link (sent tx.first)) _ tx.second
          (ap (λ steps. link steps) met.sent) tx.linked);
      same_room =
          room_moved (λ tx. second_room_of (second_in_name tx)) _ tx.second c.in-Some.second
          c.meet.new.tx c.in-Some.is (ap second_room_of on.writer.0) tx.same_room;
      bound = omega arith;
    }

pub returns-clause-all : goal.returns-clause-all
returns-clause-all g c =
    let tx = c.args.tx.now in
    let rx = c.args.rx.now in
    let met = c.meet_first.ensures in
    let t =
    together (received rx.first) (known_items c.meet_first.new.reading) (sent tx.first)
    met.joined tx.closed in
    let read = linked_kept _ _ _ _ rx.linked in
    let some = kept_some rx.second c.requires.reader in
    all_on _ _ _ _ c.meet.new.rx c.meet.new.tx met.received met.sent (t.whole (omega arith))
    c.meet.ensures.all

pub returns-clause-seen : goal.returns-clause-seen
returns-clause-seen g c =
    let tx = c.args.tx.now in
    let rx = c.args.rx.now in
    let met = c.meet_first.ensures in
    let t =
    together (received rx.first) (known_items c.meet_first.new.reading) (sent tx.first)
    met.joined tx.closed in
    let read = linked_kept _ _ _ _ rx.linked in
    let some = kept_some rx.second c.requires.reader in
    let items = t.items_taken in
    let same = ap (λ steps. length (pieces steps)) (t.whole (omega arith)) in
    let put = ap (λ steps. length (pieces steps)) met.sent in
    let got = ap (λ steps. length (pieces steps)) met.received in
    let long =
    length-append (pieces (received c.meet_first.new.reading)) (second_got c.meet.new.rx) in
    let seen = met.seen in
    let on = c.meet.ensures.seen in
    omega arith
