use Rattle.std.proofs.Common.{arith, ap, sym, ◌∙◌, length}
use Rattle.rtrb.specs.Ring.{sent}
use Rattle.lane.specs.Steps.{pieces}
use Rattle.lane.proofs.StepLemmas.{count_steps}
use Rattle.lane.proofs.LinkLemmas.{linked_kept, kept_some, kept_none}
use Rattle.lane.proofs.ring_lane.RingLaneIn.unseen.Goals as goal

pub returns-then-is_some-clause-count : goal.returns-then-is_some-clause-count
returns-then-is_some-clause-count g c =
    let tx = c.args.self.now in
    let steps = count_steps (sent tx.first) tx.closed in
    let both = linked_kept _ _ _ _ tx.linked in
    let same = ap length c.slots.ensures.looked.1 in
    let items = ap (λ us. length (pieces us)) c.slots.ensures.looked.1 in
    let some = kept_some tx.second (sym c.is_some.ensures ∙ c.if-is_some.true) in
    omega arith

pub returns-else-is_some-clause-count : goal.returns-else-is_some-clause-count
returns-else-is_some-clause-count g c =
    let tx = c.args.self.now in
    let steps = count_steps (sent tx.first) tx.closed in
    let both = linked_kept _ _ _ _ tx.linked in
    let same = ap length c.slots.ensures.looked.1 in
    let items = ap (λ us. length (pieces us)) c.slots.ensures.looked.1 in
    let none = kept_none tx.second (sym c.is_some.ensures ∙ c.if-is_some.false) in
    omega arith

pub returns-then-cached_slots-capacity-clause-count :
    goal.returns-then-cached_slots-capacity-clause-count
returns-then-cached_slots-capacity-clause-count g c =
    let tx = c.args.self.now in
    let steps = count_steps (sent tx.first) tx.closed in
    omega arith
