use Rattle.std.proofs.Common.{ap, refl, ◌∙◌}
use Rattle.session.specs.CoreStates.{position_behind}
use Rattle.session.proofs.Positions.{collected}
use Rattle.session.proofs.context.Context.whole.Goals as goal

pub returns-clause-follows : goal.returns-clause-follows
returns-clause-follows c entries before holds =
    collected entries before _ _ _ _ _ _ _ _ _ c.args.head.now c.args.block.now refl refl refl
    c.in_ok-block_events.ensures.ok
    (c.between.ensures ∙ ap position_behind c.deref.ensures.value) holds
