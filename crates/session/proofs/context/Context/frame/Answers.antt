use Rattle.std.proofs.Common.{◌≡◌, rules}
use Rattle.h2frame.specs.declared.kind.FrameKind.TheVariants.{Settings}
use Rattle.session.proofs.Positions.{if_then, if_ended, first_begins, next_begins, first_stops}
use Rattle.session.proofs.context.Context.frame.Goals as goal

pub returns-then-eq-clause-follows : goal.returns-then-eq-clause-follows
returns-then-eq-clause-follows c =
    let kind : c.args.frame.head.kind ≡ Settings = search rules in
    if_then c.begin.result _ _ c.begin.ensures.follows (λ next begins entries before leads.
    first_begins c.args.at entries _ before _ _ _ _ _ _ next c.in-First.is leads kind begins)

pub returns-else-eq-clause-follows : goal.returns-else-eq-clause-follows
returns-else-eq-clause-follows c =
    let other : c.args.frame.head.kind ≡ Settings → ⊥ = search rules in
    if_ended _ _ _ c.end.ensures.none c.end.ensures.events (λ e entries before leads rest.
    first_stops c.args.at entries _ rest before _ _ _ _ c.in-First.is leads other e)

pub returns-in-Between-clause-follows : goal.returns-in-Between-clause-follows
returns-in-Between-clause-follows c =
    if_then c.begin-in-Between.result _ _ c.begin-in-Between.ensures.follows
    (λ next begins entries before leads.
    next_begins c.args.at entries _ before _ _ _ _ _ _ next c.in-Between.is leads begins)
