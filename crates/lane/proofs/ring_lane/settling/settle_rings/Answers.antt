use Rattle.std.proofs.Common.{arith, ap, sym, length, length-append, ◌≡◌, ◌∙◌, ◌++◌, Some}
use Rattle.std.specs.Option.{option_map}
use Rattle.rtrb.specs.Ring.{sent, received, known_items}
use Rattle.lane.specs.End.{of_end}
use Rattle.lane.specs.Lawful.{count_of}
use Rattle.lane.specs.Steps.{pieces, link}
use Rattle.lane.specs.Linked.{of_second, count_second, kept}
use Rattle.lane.specs.Second.{
  got as second_got,
  put_in as second_put_in,
  put_shut as second_put_shut,
  seen_shut as second_seen_shut,
  seen_taken as second_seen_taken,
}
use Rattle.lane.proofs.StepLemmas.{together}
use Rattle.lane.proofs.LinkLemmas.{
  none_next,
  linked_kept,
  same_names,
  begins_none,
  begins_some,
  found_fresh,
}
use Rattle.lane.proofs.ring_lane.settling.settle_rings.Goals as goal

pub returns-in-None-clause-got : goal.returns-in-None-clause-got
returns-in-None-clause-got g c =
    let t =
    together (received c.args.reading) (known_items c.meet_first-known.new.reading)
    (sent c.args.first) c.meet_first-known.ensures.joined c.requires.closed in
    let popped = c.meet_first-known.ensures.popped in
    let known = c.meet_first-known.ensures.known in
    let written = linked_kept _ _ _ _ c.requires.written in
    let read = linked_kept _ _ _ _ c.requires.read in
    let all = t.all in
    let items_put = t.items_put in
    let items_taken = t.items_taken in
    let less = t.less in
    let no_put =
    ap (λ next. length (of_second (of_end second_put_in second_put_shut) next)) c.in-None.is in
    let no_seen =
    ap (λ next. count_second (of_end second_seen_taken second_seen_shut) next) c.in-None.is in
    let no_tx = ap kept c.in-None.is in
    let no_rx = none_next _ _ _ _ c.requires.read (omega arith) in
    let no_got = ap (λ out. length (of_second second_got out)) no_rx in
    ap (λ out. count_of (of_second second_got out)) (sym no_rx)

pub returns-in-None-clause-left : goal.returns-in-None-clause-left
returns-in-None-clause-left g c =
    let t =
    together (received c.args.reading) (known_items c.meet_first-known.new.reading)
    (sent c.args.first) c.meet_first-known.ensures.joined c.requires.closed in
    let popped = c.meet_first-known.ensures.popped in
    let known = c.meet_first-known.ensures.known in
    let written = linked_kept _ _ _ _ c.requires.written in
    let read = linked_kept _ _ _ _ c.requires.read in
    let all = t.all in
    let items_put = t.items_put in
    let items_taken = t.items_taken in
    let less = t.less in
    let no_put =
    ap (λ next. length (of_second (of_end second_put_in second_put_shut) next)) c.in-None.is in
    let no_seen =
    ap (λ next. count_second (of_end second_seen_taken second_seen_shut) next) c.in-None.is in
    let no_tx = ap kept c.in-None.is in
    let no_rx = none_next _ _ _ _ c.requires.read (omega arith) in
    let no_got = ap (λ out. length (of_second second_got out)) no_rx in
    omega arith

pub returns-in-None-clause-begins : goal.returns-in-None-clause-begins
returns-in-None-clause-begins g c =
    let t =
    together (received c.args.reading) (known_items c.meet_first-known.new.reading)
    (sent c.args.first) c.meet_first-known.ensures.joined c.requires.closed in
    let popped = c.meet_first-known.ensures.popped in
    let known = c.meet_first-known.ensures.known in
    let written = linked_kept _ _ _ _ c.requires.written in
    let read = linked_kept _ _ _ _ c.requires.read in
    let all = t.all in
    let items_put = t.items_put in
    let items_taken = t.items_taken in
    let less = t.less in
    let no_put =
    ap (λ next. length (of_second (of_end second_put_in second_put_shut) next)) c.in-None.is in
    let no_seen =
    ap (λ next. count_second (of_end second_seen_taken second_seen_shut) next) c.in-None.is in
    let no_tx = ap kept c.in-None.is in
    let no_rx = none_next _ _ _ _ c.requires.read (omega arith) in
    let no_got = ap (λ out. length (of_second second_got out)) no_rx in
    begins_none (of_end second_put_in second_put_shut) second_got (pieces (received c.args.reading))
    (pieces (sent c.args.first)) c.args.second c.args.out no_rx t.begins

pub returns-in-None-clause-seen : goal.returns-in-None-clause-seen
returns-in-None-clause-seen g c =
    let t =
    together (received c.args.reading) (known_items c.meet_first-known.new.reading)
    (sent c.args.first) c.meet_first-known.ensures.joined c.requires.closed in
    let popped = c.meet_first-known.ensures.popped in
    let known = c.meet_first-known.ensures.known in
    let written = linked_kept _ _ _ _ c.requires.written in
    let read = linked_kept _ _ _ _ c.requires.read in
    let all = t.all in
    let items_put = t.items_put in
    let items_taken = t.items_taken in
    let less = t.less in
    let no_put =
    ap (λ next. length (of_second (of_end second_put_in second_put_shut) next)) c.in-None.is in
    let no_seen =
    ap (λ next. count_second (of_end second_seen_taken second_seen_shut) next) c.in-None.is in
    let no_tx = ap kept c.in-None.is in
    let no_rx = none_next _ _ _ _ c.requires.read (omega arith) in
    let no_got = ap (λ out. length (of_second second_got out)) no_rx in
    omega arith

pub settle-requires : goal.settle-requires
settle-requires g c =
    let t =
    together (received c.args.reading) (known_items c.meet_first-known.new.reading)
    (sent c.args.first) c.meet_first-known.ensures.joined c.requires.closed in
    let popped = c.meet_first-known.ensures.popped in
    let known = c.meet_first-known.ensures.known in
    let written = linked_kept _ _ _ _ c.requires.written in
    let read = linked_kept _ _ _ _ c.requires.read in
    let all = t.all in
    let items_put = t.items_put in
    let items_taken = t.items_taken in
    let less = t.less in
    let put =
    ap (λ next. length (of_second (of_end second_put_in second_put_shut) next)) c.in-Some.is in
    let seen =
    ap (λ next. count_second (of_end second_seen_taken second_seen_shut) next) c.in-Some.is in
    let has_tx = ap kept c.in-Some.is in
    let has_rx = ap kept c.in-Some-out.is in
    let same = t.whole (omega arith) in
    let same_items = ap (λ steps. length (pieces steps)) same in
    let got = ap (λ out. length (of_second second_got out)) c.in-Some-out.is in
    same_names _ _ _ (link (received c.args.reading)) (link (sent c.args.first)) c.args.second
    c.args.out c.in-Some.second c.in-Some-out.out (ap (λ steps. link steps) same) c.in-Some.is
    c.in-Some-out.is c.requires.written c.requires.read

pub returns-in-Some-out-clause-left : goal.returns-in-Some-out-clause-left
returns-in-Some-out-clause-left g c =
    let t =
    together (received c.args.reading) (known_items c.meet_first-known.new.reading)
    (sent c.args.first) c.meet_first-known.ensures.joined c.requires.closed in
    let popped = c.meet_first-known.ensures.popped in
    let known = c.meet_first-known.ensures.known in
    let written = linked_kept _ _ _ _ c.requires.written in
    let read = linked_kept _ _ _ _ c.requires.read in
    let all = t.all in
    let items_put = t.items_put in
    let items_taken = t.items_taken in
    let less = t.less in
    let put =
    ap (λ next. length (of_second (of_end second_put_in second_put_shut) next)) c.in-Some.is in
    let seen =
    ap (λ next. count_second (of_end second_seen_taken second_seen_shut) next) c.in-Some.is in
    let has_tx = ap kept c.in-Some.is in
    let has_rx = ap kept c.in-Some-out.is in
    let same = t.whole (omega arith) in
    let same_items = ap (λ steps. length (pieces steps)) same in
    let got = ap (λ out. length (of_second second_got out)) c.in-Some-out.is in
    omega (arith, c.settle.ensures.left)

pub returns-in-Some-out-clause-begins : goal.returns-in-Some-out-clause-begins
returns-in-Some-out-clause-begins g c =
    let t =
    together (received c.args.reading) (known_items c.meet_first-known.new.reading)
    (sent c.args.first) c.meet_first-known.ensures.joined c.requires.closed in
    let popped = c.meet_first-known.ensures.popped in
    let known = c.meet_first-known.ensures.known in
    let written = linked_kept _ _ _ _ c.requires.written in
    let read = linked_kept _ _ _ _ c.requires.read in
    let all = t.all in
    let items_put = t.items_put in
    let items_taken = t.items_taken in
    let less = t.less in
    let put =
    ap (λ next. length (of_second (of_end second_put_in second_put_shut) next)) c.in-Some.is in
    let seen =
    ap (λ next. count_second (of_end second_seen_taken second_seen_shut) next) c.in-Some.is in
    let has_tx = ap kept c.in-Some.is in
    let has_rx = ap kept c.in-Some-out.is in
    let same = t.whole (omega arith) in
    let same_items = ap (λ steps. length (pieces steps)) same in
    let got = ap (λ out. length (of_second second_got out)) c.in-Some-out.is in
    begins_some (of_end second_put_in second_put_shut) second_got (pieces (received c.args.reading))
    (pieces (sent c.args.first)) c.args.second c.args.out c.in-Some.second c.in-Some-out.out
    c.in-Some.is c.in-Some-out.is (ap (λ steps. pieces steps) same) c.settle.ensures.begins

pub returns-in-Some-out-clause-seen : goal.returns-in-Some-out-clause-seen
returns-in-Some-out-clause-seen g c =
    let t =
    together (received c.args.reading) (known_items c.meet_first-known.new.reading)
    (sent c.args.first) c.meet_first-known.ensures.joined c.requires.closed in
    let popped = c.meet_first-known.ensures.popped in
    let known = c.meet_first-known.ensures.known in
    let written = linked_kept _ _ _ _ c.requires.written in
    let read = linked_kept _ _ _ _ c.requires.read in
    let all = t.all in
    let items_put = t.items_put in
    let items_taken = t.items_taken in
    let less = t.less in
    let put =
    ap (λ next. length (of_second (of_end second_put_in second_put_shut) next)) c.in-Some.is in
    let seen =
    ap (λ next. count_second (of_end second_seen_taken second_seen_shut) next) c.in-Some.is in
    let has_tx = ap kept c.in-Some.is in
    let has_rx = ap kept c.in-Some-out.is in
    let same = t.whole (omega arith) in
    let same_items = ap (λ steps. length (pieces steps)) same in
    let got = ap (λ out. length (of_second second_got out)) c.in-Some-out.is in
    omega (arith, c.settle.ensures.seen)

pub overflow_add-result : goal.overflow_add-result
overflow_add-result g c =
    let t =
    together (received c.args.reading) (known_items c.meet_first-known.new.reading)
    (sent c.args.first) c.meet_first-known.ensures.joined c.requires.closed in
    let popped = c.meet_first-known.ensures.popped in
    let known = c.meet_first-known.ensures.known in
    let written = linked_kept _ _ _ _ c.requires.written in
    let read = linked_kept _ _ _ _ c.requires.read in
    let all = t.all in
    let items_put = t.items_put in
    let items_taken = t.items_taken in
    let less = t.less in
    let put =
    ap (λ next. length (of_second (of_end second_put_in second_put_shut) next)) c.in-Some.is in
    let seen =
    ap (λ next. count_second (of_end second_seen_taken second_seen_shut) next) c.in-Some.is in
    let has_tx = ap kept c.in-Some.is in
    let no_rx = ap kept c.in-None-out.is in
    let no_got = ap (λ out. length (of_second second_got out)) c.in-None-out.is in
    let is : Some c.in-Some-drain.out ≡ option_map (λ fresh. fresh.out.value)
    (link (sent c.args.first)) =
    sym c.in-Some-drain.is
    ∙ (c.drain.ensures
    ∙ ap (λ steps. option_map (λ fresh. fresh.out.value) (link steps)) (ap
    (λ steps. steps ++ known_items c.meet_first-known.new.reading)
    c.meet_first-known.ensures.received
    ∙ c.meet_first-known.ensures.joined)) in
    let fresh =
    found_fresh second_got (λ fresh. fresh.out.value) (link (sent c.args.first)) c.in-Some-drain.out
    (λ fresh. fresh.fresh) is in
    let bound = c.requires.bound in
    omega (arith, c.settle-rest.ensures.left, c.settle-rest.ensures.seen)

pub returns-in-Some-drain-clause-left : goal.returns-in-Some-drain-clause-left
returns-in-Some-drain-clause-left g c =
    let t =
    together (received c.args.reading) (known_items c.meet_first-known.new.reading)
    (sent c.args.first) c.meet_first-known.ensures.joined c.requires.closed in
    let popped = c.meet_first-known.ensures.popped in
    let known = c.meet_first-known.ensures.known in
    let written = linked_kept _ _ _ _ c.requires.written in
    let read = linked_kept _ _ _ _ c.requires.read in
    let all = t.all in
    let items_put = t.items_put in
    let items_taken = t.items_taken in
    let less = t.less in
    let put =
    ap (λ next. length (of_second (of_end second_put_in second_put_shut) next)) c.in-Some.is in
    let seen =
    ap (λ next. count_second (of_end second_seen_taken second_seen_shut) next) c.in-Some.is in
    let has_tx = ap kept c.in-Some.is in
    let no_rx = ap kept c.in-None-out.is in
    let no_got = ap (λ out. length (of_second second_got out)) c.in-None-out.is in
    let is : Some c.in-Some-drain.out ≡ option_map (λ fresh. fresh.out.value)
    (link (sent c.args.first)) =
    sym c.in-Some-drain.is
    ∙ (c.drain.ensures
    ∙ ap (λ steps. option_map (λ fresh. fresh.out.value) (link steps)) (ap
    (λ steps. steps ++ known_items c.meet_first-known.new.reading)
    c.meet_first-known.ensures.received
    ∙ c.meet_first-known.ensures.joined)) in
    let fresh =
    found_fresh second_got (λ fresh. fresh.out.value) (link (sent c.args.first)) c.in-Some-drain.out
    (λ fresh. fresh.fresh) is in
    let more = ap length t.begins.1 in
    let long = length-append (pieces (received c.args.reading)) t.begins.0 in
    omega (arith, c.settle-rest.ensures.left)

pub returns-in-Some-drain-clause-begins : goal.returns-in-Some-drain-clause-begins
returns-in-Some-drain-clause-begins g c =
    let t =
    together (received c.args.reading) (known_items c.meet_first-known.new.reading)
    (sent c.args.first) c.meet_first-known.ensures.joined c.requires.closed in
    let popped = c.meet_first-known.ensures.popped in
    let known = c.meet_first-known.ensures.known in
    let written = linked_kept _ _ _ _ c.requires.written in
    let read = linked_kept _ _ _ _ c.requires.read in
    let all = t.all in
    let items_put = t.items_put in
    let items_taken = t.items_taken in
    let less = t.less in
    let put =
    ap (λ next. length (of_second (of_end second_put_in second_put_shut) next)) c.in-Some.is in
    let seen =
    ap (λ next. count_second (of_end second_seen_taken second_seen_shut) next) c.in-Some.is in
    let has_tx = ap kept c.in-Some.is in
    let no_rx = ap kept c.in-None-out.is in
    let no_got = ap (λ out. length (of_second second_got out)) c.in-None-out.is in
    let is : Some c.in-Some-drain.out ≡ option_map (λ fresh. fresh.out.value)
    (link (sent c.args.first)) =
    sym c.in-Some-drain.is
    ∙ (c.drain.ensures
    ∙ ap (λ steps. option_map (λ fresh. fresh.out.value) (link steps)) (ap
    (λ steps. steps ++ known_items c.meet_first-known.new.reading)
    c.meet_first-known.ensures.received
    ∙ c.meet_first-known.ensures.joined)) in
    let fresh =
    found_fresh second_got (λ fresh. fresh.out.value) (link (sent c.args.first)) c.in-Some-drain.out
    (λ fresh. fresh.fresh) is in
    begins_none (of_end second_put_in second_put_shut) second_got (pieces (received c.args.reading))
    (pieces (sent c.args.first)) c.args.second c.args.out c.in-None-out.is t.begins

pub returns-in-Some-drain-clause-seen : goal.returns-in-Some-drain-clause-seen
returns-in-Some-drain-clause-seen g c =
    let t =
    together (received c.args.reading) (known_items c.meet_first-known.new.reading)
    (sent c.args.first) c.meet_first-known.ensures.joined c.requires.closed in
    let popped = c.meet_first-known.ensures.popped in
    let known = c.meet_first-known.ensures.known in
    let written = linked_kept _ _ _ _ c.requires.written in
    let read = linked_kept _ _ _ _ c.requires.read in
    let all = t.all in
    let items_put = t.items_put in
    let items_taken = t.items_taken in
    let less = t.less in
    let put =
    ap (λ next. length (of_second (of_end second_put_in second_put_shut) next)) c.in-Some.is in
    let seen =
    ap (λ next. count_second (of_end second_seen_taken second_seen_shut) next) c.in-Some.is in
    let has_tx = ap kept c.in-Some.is in
    let no_rx = ap kept c.in-None-out.is in
    let no_got = ap (λ out. length (of_second second_got out)) c.in-None-out.is in
    let is : Some c.in-Some-drain.out ≡ option_map (λ fresh. fresh.out.value)
    (link (sent c.args.first)) =
    sym c.in-Some-drain.is
    ∙ (c.drain.ensures
    ∙ ap (λ steps. option_map (λ fresh. fresh.out.value) (link steps)) (ap
    (λ steps. steps ++ known_items c.meet_first-known.new.reading)
    c.meet_first-known.ensures.received
    ∙ c.meet_first-known.ensures.joined)) in
    let fresh =
    found_fresh second_got (λ fresh. fresh.out.value) (link (sent c.args.first)) c.in-Some-drain.out
    (λ fresh. fresh.fresh) is in
    omega (arith, c.settle-rest.ensures.seen)
