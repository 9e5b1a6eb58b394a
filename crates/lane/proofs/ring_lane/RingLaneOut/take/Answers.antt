use Rattle.std.proofs.Common.{arith, ap, sym, refl, length, Some, ◌≡◌, ◌∙◌, ◌∷◌, ◌++◌, []}
use Rattle.rtrb.specs.Ring.{received, known_items}
use Rattle.lane.specs.Steps.{pieces, link}
use Rattle.lane.specs.declared.ring_lane.step.RingStep.TheVariants.{Piece, Next}
use Rattle.lane.specs.Second.{got as second_got, out_name as second_out_name}
use Rattle.lane.proofs.StepLemmas.{push_piece, push_next, ahead_piece, ahead_next}
use Rattle.lane.proofs.LinkLemmas.{
  linked_same,
  linked_some,
  first_alone,
  second_more,
  gone_on,
  last_first,
  last_second,
}
use Rattle.lane.proofs.ring_lane.RingLaneOut.take.Goals as goal

pub invariant_of-self : goal.invariant_of-self
invariant_of-self g c =
    let rx = c.args.self.now in
    let pushed : received c.pop_known.new.self ≡ received rx.first ++ Piece c.in-Piece.item ∷ [] =
    c.pop_known.ensures.received.0 ∙ ap (λ step. received rx.first ++ step ∷ []) c.in-Piece.is in
    let more = push_piece (received rx.first) _ c.in-Piece.item pushed in
    let len = more.len in
    record {
      counted = omega arith;
      linked = linked_same _ _ (link (received rx.first)) _ rx.second more.way rx.linked;
      kept =
          last_first second_got (pieces (received rx.first)) _ rx.second c.in-Piece.item
          c.requires.first more.items;
    }

pub returns-in-Piece-clause-item : goal.returns-in-Piece-clause-item
returns-in-Piece-clause-item g c =
    let rx = c.args.self.now in
    let pushed : received c.pop_known.new.self ≡ received rx.first ++ Piece c.in-Piece.item ∷ [] =
    c.pop_known.ensures.received.0 ∙ ap (λ step. received rx.first ++ step ∷ []) c.in-Piece.is in
    let more = push_piece (received rx.first) _ c.in-Piece.item pushed in
    let known : known_items rx.first ≡ Piece c.in-Piece.item ∷ known_items c.pop_known.new.self =
    c.pop_known.ensures.received.1
    ∙ ap (λ step. step ∷ known_items c.pop_known.new.self) c.in-Piece.is in (
      first_alone second_got (pieces (received c.pop_known.new.self)) rx.second c.requires.first
          ∙ (more.items
          ∙ ap (λ items. items ++ c.in-Piece.item ∷ [])
          (sym (first_alone second_got (pieces (received rx.first)) rx.second c.requires.first))),
      λ some.
          ahead_piece rx.second (known_items rx.first) (known_items c.pop_known.new.self)
          c.in-Piece.item c.requires.first known,
    )

pub invariant_of-self-in-Some : goal.invariant_of-self-in-Some
invariant_of-self-in-Some g c =
    let rx = c.args.self.now in
    let pushed : received c.pop_known.new.self ≡ received rx.first ++ Next c.in-Next.fresh ∷ [] =
    c.pop_known.ensures.received.0 ∙ ap (λ step. received rx.first ++ step ∷ []) c.in-Next.is in
    let more = push_next (received rx.first) _ c.in-Next.fresh pushed in
    let same = ap length more.items in
    let name = c.poll.ensures.name ∙ ap (λ out. second_out_name out) c.into_inner-out.ensures in
    record {
      counted = omega arith;
      linked = linked_some _ _ _ c.in-Next.fresh c.poll.new.self more.way name;
      kept =
          last_second second_got (pieces (received c.pop_known.new.self)) c.into_inner-out.result
          c.poll.new.self c.in-Some.item c.in-Some.ensures.got;
    }

pub returns-in-Some-clause-item : goal.returns-in-Some-clause-item
returns-in-Some-clause-item g c =
    let rx = c.args.self.now in
    let pushed : received c.pop_known.new.self ≡ received rx.first ++ Next c.in-Next.fresh ∷ [] =
    c.pop_known.ensures.received.0 ∙ ap (λ step. received rx.first ++ step ∷ []) c.in-Next.is in
    let more = push_next (received rx.first) _ c.in-Next.fresh pushed in
    let known : known_items rx.first ≡ Next c.in-Next.fresh ∷ known_items c.pop_known.new.self =
    c.pop_known.ensures.received.1
    ∙ ap (λ step. step ∷ known_items c.pop_known.new.self) c.in-Next.is in
    let all =
    gone_on second_got (pieces (received rx.first)) (pieces (received c.pop_known.new.self))
    rx.second c.into_inner-out.result c.in-Next.fresh.out.value c.requires.first more.items
    c.into_inner-out.ensures c.in-Next.fresh.fresh in
    let none =
    ap length (ahead_next rx.second (known_items rx.first) (known_items c.pop_known.new.self)
    c.in-Next.fresh c.requires.first known) in (
      second_more second_got (pieces (received c.pop_known.new.self)) (Some c.into_inner-out.result)
          c.into_inner-out.result c.poll.new.self c.in-Some.item refl c.in-Some.ensures.got
          ∙ ap (λ items. items ++ c.in-Some.item ∷ []) all,
      λ some. absurd (omega arith),
    )
