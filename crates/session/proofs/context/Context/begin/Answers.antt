use Rattle.std.proofs.Common.{◌≡◌, ◌≤◌, length, sym, ap, refl, ◌∙◌, rules}
use Rattle.h2frame.specs.declared.kind.FrameKind.TheVariants.{Headers}
use Rattle.h2frame.specs.FrameList.{Whole}
use Rattle.session.specs.Events.{Single}
use Rattle.session.specs.CoreStates.{position_behind}
use Rattle.session.proofs.Positions.{
  if_then,
  if_ended,
  behind_groups,
  refuses,
  block_begins,
  one_frame,
}
use Rattle.session.proofs.context.Context.begin.Goals as goal

pub returns-then-ne-clause-follows : goal.returns-then-ne-clause-follows
returns-then-ne-clause-follows c entries before history passes keeps settled =
    let g = c.in_ok-frame_events.ensures.ok history keeps in
    behind_groups entries (Whole c.args.frame) before _ g.0 _ (record {
      history = history;
      kept = c.args.self.now.decoder;
    }) (record { history = g.1; kept = c.args.self.now.decoder }) (Single c.args.frame) _ _ _
    passes settled refl (g.2, refl) g.3 g.4 refl
    (c.between.ensures ∙ ap position_behind c.deref.ensures.value)

pub returns-in-ConnectionError-clause-follows : goal.returns-in-ConnectionError-clause-follows
returns-in-ConnectionError-clause-follows c =
    let kind : c.args.frame.head.kind ≡ Headers = search rules in
    if_ended _ _ _ c.end.ensures.none c.end.ensures.events
    (λ e entries before history passes keeps settled rest.
    refuses entries _ _ rest before _ _ history _ passes settled kind
    (sym (c.in_ok-verdict.ensures.verdict history keeps) ∙ c.in-ConnectionError.is) e)

pub returns-clause-follows : goal.returns-clause-follows
returns-clause-follows c =
    if_then c.collect.result _ _ c.collect.ensures.follows
    (λ next collected entries before history passes keeps settled.
    block_begins entries _ before _ _ _ _ c.args.self.now.halves _ _ _ _ next history collected
    passes settled c.in_ok-block.ensures
    (c.in_ok-verdict.ensures.verdict history keeps) c.in_default.not-ConnectionError
    (c.in_ok-verdict.ensures.follows history keeps))

pub returns-then-contains-clause-follows : goal.returns-then-contains-clause-follows
returns-then-contains-clause-follows c =
    let kind : c.args.frame.head.kind ≡ Headers = search rules in
    let short : length c.args.frame.content ≤ 16384 = search rules in
    if_then c.whole.result _ _ c.whole.ensures.follows
    (λ next collected entries before history passes keeps settled.
    one_frame entries c.args.frame _ before _ _ _ c.args.self.now.halves _ _ _ _ next history
    collected c.as_slice.ensures passes settled kind short (sym c.if-contains.ensures)
    (c.in_ok-verdict.ensures.verdict history keeps) c.in_default.not-ConnectionError
    (c.in_ok-verdict.ensures.follows history keeps))
