use Rattle.std.proofs.Common.{ℕ, ap, subst, true}
use Rattle.std.specs.Prelude.{IfErr}
use Rattle.connection.specs.Limits.{MayTurnAway, Tally}
use Rattle.connection.proofs.Tallies.{turns-so}
use Rattle.connection.proofs.intake.Intake.admit.Goals as goal

pub returns-clause-justified : goal.returns-clause-justified
returns-clause-justified g c =
    subst (λ (calls : ℕ). IfErr c.admit.result (λ call. MayTurnAway calls true call.fault))
    (ap (λ (tally : Tally). tally.calls) c.self.view_is)
    (turns-so c.admit.result _ c.admit.ensures.many)
