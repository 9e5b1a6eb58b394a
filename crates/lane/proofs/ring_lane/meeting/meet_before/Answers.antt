use Rattle.std.proofs.Common.{arith, ap, length}
use Rattle.rtrb.specs.Ring.{sent, received, known_items}
use Rattle.lane.specs.Steps.{pieces}
use Rattle.lane.specs.Second.{seen_taken as second_seen_taken, got as second_got}
use Rattle.lane.proofs.StepLemmas.{ahead_first, here_of, links}
use Rattle.lane.proofs.LinkLemmas.{no_link, first_alone, none_second}
use Rattle.lane.proofs.MeetLemmas.{all_before}
use Rattle.lane.proofs.ring_lane.meeting.meet_before.Goals as goal

pub returns-clause-all : goal.returns-clause-all
returns-clause-all g c =
    let tx = c.args.tx.now in
    let rx = c.args.rx.now in
    let met = c.meet_first.ensures in
    let here =
    here_of (received rx.first) (known_items c.meet_first.new.reading) (sent tx.first) met.joined
    tx.closed (no_link _ _ _ _ rx.linked c.requires.reader) in
    all_before _ _ _ _ _ rx.second tx.second c.requires.reader c.requires.writer met.received
    met.sent here.items

pub returns-clause-count : goal.returns-clause-count
returns-clause-count g c =
    let tx = c.args.tx.now in
    let rx = c.args.rx.now in
    let met = c.meet_first.ensures in
    let here =
    here_of (received rx.first) (known_items c.meet_first.new.reading) (sent tx.first) met.joined
    tx.closed (no_link _ _ _ _ rx.linked c.requires.reader) in
    let no_links = ap links (no_link _ _ _ _ tx.linked c.requires.writer) in
    let count = here.count in
    let known = met.known in
    let ahead =
    ap length (ahead_first rx.second (known_items c.meet_first.new.reading) c.requires.reader) in
    omega arith

pub returns-clause-seen : goal.returns-clause-seen
returns-clause-seen g c =
    let tx = c.args.tx.now in
    let rx = c.args.rx.now in
    let met = c.meet_first.ensures in
    let here =
    here_of (received rx.first) (known_items c.meet_first.new.reading) (sent tx.first) met.joined
    tx.closed (no_link _ _ _ _ rx.linked c.requires.reader) in
    let less = here.less in
    let some = here.some in
    let seen = met.seen in
    let put = ap (λ steps. length (pieces steps)) met.sent in
    let got = ap (λ steps. length (pieces steps)) met.received in
    let alone =
    ap length (first_alone second_got (pieces (received c.meet_first.new.reading)) rx.second
    c.requires.reader) in
    let unseen = none_second second_seen_taken tx.second c.requires.writer in
    omega arith
