use Rattle.std.proofs.Common.{ap, ◌∙◌, ◌++◌}
use Rattle.h2frame.specs.declared.frame.FrameHead.{FrameHead}
use Rattle.session.specs.Streams.{refusal}
use Rattle.session.specs.CoreStates.{position_behind}
use Rattle.session.proofs.Positions.{if_ended, credits, first_credit, inner_credit}
use Rattle.session.proofs.context.Context.credit.Goals as goal

pub returns-in-First : goal.returns-in-First
returns-in-First c =
    record {
      sound = if_ended _ _ _ c.end.ensures.none c.end.ensures.events (λ e. tt);
      follows = if_ended _ _ _ c.end.ensures.none c.end.ensures.events
          (λ e entries before leads rest.
          first_credit c.args.at entries _ rest before _ _ _ _ c.in-First.is leads e);
    }

pub returns-in-Inside : goal.returns-in-Inside
returns-in-Inside c =
    record {
      sound = if_ended _ _ _ c.end-in-Inside.ensures.none c.end-in-Inside.ensures.events (λ e. tt);
      follows = if_ended _ _ _ c.end-in-Inside.ensures.none c.end-in-Inside.ensures.events
          (λ e entries before leads rest.
          inner_credit c.args.at _ _ entries _ rest before _ _ _ _ c.in-Inside.is leads e);
    }

pub returns-clause-follows : goal.returns-clause-follows
returns-clause-follows c entries before leads =
    credits c.args.at entries _ before _ _ _ _ _ _ _ c.in-Between.is c.in_ok-verdict.ensures.verdict
    c.in_ok-verdict.ensures.follows (c.in_ok-refuse.ensures
    ∙ ap (λ (head : FrameHead). c.args.events.now.items ++ refusal c.in_ok-verdict.verdict head)
    c.credit_head.ensures)
    (c.between.ensures ∙ ap position_behind c.deref.ensures.value) leads
