use Rattle.std.proofs.Common.{◌+◌, ℕ, ap, subst}
use Rattle.connection.specs.Limits.{MayRefuse, Tally}
use Rattle.connection.proofs.Tallies.{refuses-so}
use Rattle.connection.proofs.intake.Intake.receive.Goals as goal

pub returns-clause-justified : goal.returns-clause-justified
returns-clause-justified g c =
    subst (λ (came : ℕ). MayRefuse (came + c.args.flow) c.receive.result.receipt)
    (ap (λ (tally : Tally). tally.came) c.self.view_is)
    (refuses-so c.receive.result.receipt _ _ c.args.flow c.receive.ensures.counted
    c.receive.ensures.over_call c.receive.ensures.over)
