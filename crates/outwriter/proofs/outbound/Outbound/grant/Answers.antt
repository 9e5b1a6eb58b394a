use Rattle.std.proofs.Common.{◌∷◌}
use Rattle.outwriter.specs.Steps.{Granted}
use Rattle.outwriter.proofs.RunStateSteps.{grant-led, windows-still}
use Rattle.outwriter.proofs.outbound.Outbound.grant.Goals as goal

pub returns-clause-taken : goal.returns-clause-taken
returns-clause-taken c = λ run m.
    windows-still (Granted c.args.id c.args.n ∷ run) _ _ c.args.self.now.states.windows
    c.grant.new.self.windows _ _ c.grant.new.self c.grant.ensures.windows
    (grant-led c.args.id c.args.n run _ _ _ _ _ c.args.self.now.states c.grant.new.self
    c.grant.ensures.grants c.grant.ensures.ends m)
