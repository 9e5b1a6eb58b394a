use Rattle.std.proofs.Common.{◌≡◌, ◌∙◌, ◌∷◌, ◌++◌, [], arith, ap, sym, length}
use Rattle.rtrb.specs.Ring.{received, known_items}
use Rattle.lane.specs.Steps.{pieces}
use Rattle.lane.specs.Lawful.{last_of}
use Rattle.lane.specs.Second.{got as second_got, out_name as second_out_name}
use Rattle.lane.specs.declared.ring_lane.step.RingStep.TheVariants.{Next}
use Rattle.lane.proofs.StepLemmas.{push_next, no_way}
use Rattle.lane.proofs.LinkLemmas.{no_link, linked_some, gone_on}
use Rattle.lane.proofs.ring_lane.RingLaneOut.go_on.Goals as goal

pub unreachable-requires : goal.unreachable-requires
unreachable-requires g c =
    let rx = c.args.self.now in
    let known =
    c.pop_known.ensures.received.1
    ∙ ap (λ step. step ∷ known_items c.pop_known.new.self) c.in-Piece.is in
    c.requires.way (no_way (received rx.first) (known_items rx.first)
    (known_items c.pop_known.new.self) c.in-Piece.field-0 known c.requires.known
    (no_link _ _ _ _ rx.linked c.requires.first))

pub invariant_of-self : goal.invariant_of-self
invariant_of-self g c =
    let rx = c.args.self.now in
    let pushed : received c.pop_known.new.self ≡ received rx.first ++ Next c.in-Next.fresh ∷ [] =
    c.pop_known.ensures.received.0 ∙ ap (λ step. received rx.first ++ step ∷ []) c.in-Next.is in
    let more = push_next (received rx.first) _ c.in-Next.fresh pushed in
    let same = ap length more.items in
    let is = c.into_inner.ensures in
    let all =
    gone_on second_got (pieces (received rx.first)) (pieces (received c.pop_known.new.self))
    rx.second c.into_inner.result c.in-Next.fresh.out.value c.requires.first more.items is
    c.in-Next.fresh.fresh in
    record {
      counted = omega arith;
      linked =
          linked_some _ _ _ c.in-Next.fresh c.into_inner.result more.way
          (ap (λ out. second_out_name out) is);
      kept = rx.kept ∙ ap (λ items. last_of items) (sym all);
    }

pub returns-clause-got : goal.returns-clause-got
returns-clause-got g c =
    let rx = c.args.self.now in
    let pushed : received c.pop_known.new.self ≡ received rx.first ++ Next c.in-Next.fresh ∷ [] =
    c.pop_known.ensures.received.0 ∙ ap (λ step. received rx.first ++ step ∷ []) c.in-Next.is in
    let more = push_next (received rx.first) _ c.in-Next.fresh pushed in
    gone_on second_got (pieces (received rx.first)) (pieces (received c.pop_known.new.self))
    rx.second c.into_inner.result c.in-Next.fresh.out.value c.requires.first more.items
    c.into_inner.ensures c.in-Next.fresh.fresh
