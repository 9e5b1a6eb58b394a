use Rattle.std.proofs.Common.{rules, arith, ap, sym, ◌∙◌, ◌∷◌, ◌++◌, []}
use Rattle.std.proofs.lemmas.List.{append-nil}
use Rattle.rtrb.specs.Ring.{sent}
use Rattle.lane.specs.Steps.{pieces}
use Rattle.lane.specs.Linked.{of_second, kept}
use Rattle.lane.specs.Second.{put_in as second_put_in}
use Rattle.lane.proofs.StepLemmas.{push_piece, stays_closed, count_steps, links}
use Rattle.lane.proofs.LinkLemmas.{no_link, linked_none}
use Rattle.lane.proofs.ring_lane.RingLaneLane.last.Goals as goal

pub invariant_of-result-2 : goal.invariant_of-result-2
invariant_of-result-2 g c =
    let tx = c.args.tx in
    let pushed = c.push_reserved.ensures.sent in
    let more = push_piece (sent tx.first) _ c.args.item pushed.0 in
    let none = no_link _ _ _ _ tx.linked c.in-None.is in
    let steps = count_steps (sent tx.first) tx.closed in
    let no_links = ap links none in
    let free = ap kept c.in-None.is in
    let len = more.len in
    let all = more.all in
    record {
      fits = search rules;
      filled = omega arith;
      counted = omega arith;
      closed = stays_closed (sent tx.first) _ c.args.item pushed.0 none;
      linked = linked_none _ _ _ (more.way ∙ none);
      bound = omega arith;
    }

pub returns-clause-put : goal.returns-clause-put
returns-clause-put g c =
    let tx = c.args.tx in
    let more = push_piece (sent tx.first) _ c.args.item c.push_reserved.ensures.sent.0 in
    let old = pieces (sent tx.first) in
    let none =
    ap (λ next. (old ++ of_second second_put_in next) ++ c.args.item ∷ []) c.in-None.is
    ∙ ap (λ items. items ++ c.args.item ∷ []) (append-nil old) in
    append-nil (pieces (sent c.push_reserved.new.self)) ∙ (more.items ∙ sym none)
