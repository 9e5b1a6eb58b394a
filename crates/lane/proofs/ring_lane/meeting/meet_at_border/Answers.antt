use Rattle.std.proofs.Common.{arith, ap, length}
use Rattle.rtrb.specs.Ring.{sent, received, known_items}
use Rattle.lane.specs.Steps.{pieces}
use Rattle.lane.specs.Second.{got as second_got}
use Rattle.lane.proofs.StepLemmas.{ahead_first, here_of}
use Rattle.lane.proofs.LinkLemmas.{no_link, linked_kept, kept_some, first_alone}
use Rattle.lane.proofs.MeetLemmas.{begins_before}
use Rattle.lane.proofs.ring_lane.meeting.meet_at_border.Goals as goal

pub returns-then-known-gt1-clause-begins : goal.returns-then-known-gt1-clause-begins
returns-then-known-gt1-clause-begins g c =
    let tx = c.args.tx.now in
    let rx = c.args.rx.now in
    let met = c.meet_first-known.ensures in
    let here =
    here_of (received rx.first) (known_items c.meet_first-known.new.reading) (sent tx.first)
    met.joined tx.closed (no_link _ _ _ _ rx.linked c.requires.reader) in
    begins_before _ _ _ _ _ rx.second tx.second c.requires.reader met.received met.sent here.items

pub returns-then-known-gt1-clause-count : goal.returns-then-known-gt1-clause-count
returns-then-known-gt1-clause-count g c =
    let tx = c.args.tx.now in
    let rx = c.args.rx.now in
    let met = c.meet_first-known.ensures in
    let here =
    here_of (received rx.first) (known_items c.meet_first-known.new.reading) (sent tx.first)
    met.joined tx.closed (no_link _ _ _ _ rx.linked c.requires.reader) in
    let one = linked_kept _ _ _ _ tx.linked in
    let some = kept_some tx.second c.requires.writer in
    let count = here.count in
    let known = met.known in
    let ahead =
    ap length (ahead_first rx.second (known_items c.meet_first-known.new.reading)
    c.requires.reader) in
    omega arith

pub returns-then-known-gt1-clause-seen : goal.returns-then-known-gt1-clause-seen
returns-then-known-gt1-clause-seen g c =
    let tx = c.args.tx.now in
    let rx = c.args.rx.now in
    let met = c.meet_first-known.ensures in
    let here =
    here_of (received rx.first) (known_items c.meet_first-known.new.reading) (sent tx.first)
    met.joined tx.closed (no_link _ _ _ _ rx.linked c.requires.reader) in
    let less = here.less in
    let some = here.some in
    let seen = met.seen in
    let put = ap (λ steps. length (pieces steps)) met.sent in
    let got = ap (λ steps. length (pieces steps)) met.received in
    let alone =
    ap length (first_alone second_got (pieces (received c.meet_first-known.new.reading)) rx.second
    c.requires.reader) in
    omega arith
