use Rattle.std.proofs.Common.{◌≡◌, ◌<◌, ℕ, List, [], ◌∙◌, ap, length, rules, subst, sym, take}
use Rattle.capture.specs.Conversations.{advanced, psh_ack, segment_of}
use Rattle.capture.specs.Format.{IsRecord}
use Rattle.capture.proofs.Steps.{IsSoFar, so_far_end, so_far_init, so_far_next}
use Rattle.capture.proofs.conversation.Conversation.send.Goals as goal

pub loop-rest-init : goal.loop-rest-init
loop-rest-init c =
    let talk = c.args.self.now in
    let bytes = c.args.bytes.now in
    let empty : c.new-text.result.items ≡ [] = search rules in
    subst (λ (t : List ℕ). IsSoFar talk talk c.args.time c.args.side bytes bytes t) (sym empty)
    (so_far_init talk c.args.time c.args.side bytes)

pub loop-rest-preserved : goal.loop-rest-preserved
loop-rest-preserved c =
    let now = c.loop-rest.now in
    let rest = c.loop-rest.rest.now in
    let time = c.args.time in
    let side = c.args.side in
    let part : c.parted.result.0.now ≡ take 65000 rest = c.parted.ensures.front in
    let some : 0 < length rest = search rules in
    let first =
    subst (λ (b : List ℕ). IsRecord c.in_ok-first.first.items (segment_of now time side psh_ack b))
    part c.in_ok-first.ensures in
    let next =
    so_far_next c.args.self.now now time side c.args.bytes.now rest c.loop-rest.text.items
    c.in_ok-first.first.items c.loop-rest.invariant some first in
    let moved : c.advanced-now.result ≡ advanced now side (length (take 65000 rest)) =
    c.advanced-now.ensures ∙ ap (λ (b : List ℕ). advanced now side (length b)) part in
    rw (
      c.in_ok-extend_from_slice.ensures.items,
      c.as_slice.ensures.value,
      moved,
      c.parted.ensures.behind,
    ) next

pub returns-clause-records : goal.returns-clause-records
returns-clause-records c =
    let none : length c.loop-rest.rest.now ≡ 0 = search rules in
    so_far_end _ _ _ _ _ _ _ c.loop-rest.invariant none
