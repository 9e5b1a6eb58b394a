use Rattle.std.proofs.Common.{sym}
use Rattle.session.proofs.Positions.{if_then, whole_block}
use Rattle.session.proofs.context.Context.collect.Goals as goal

pub returns-clause-follows : goal.returns-clause-follows
returns-clause-follows c =
    if_then c.whole.result _ _ c.whole.ensures.follows
    (λ next collected entries before holds.
    whole_block entries before _ _ c.args.block _ _ _ _ _ _ _ next (sym c.if-not-is_whole.ensures)
    c.head.ensures c.as_slice.ensures collected holds)
