use Rattle.std.proofs.Common.{sym, ap, ◌∙◌, Bool}
use Rattle.callrun.specs.Sides.{if_placed}
use Rattle.callrun.proofs.Steps.{gives_at, placed_outcome}
use Rattle.callrun.proofs.call_run.CallRun.into_ends.Goals.{then-placed, else-placed}
use Rattle.callrun.proofs.call_run.CallRun.into_ends.Goals as goal

pub returns-in-Open-clause-outcome : goal.returns-in-Open-clause-outcome
returns-in-Open-clause-outcome g c = λ answer gives.
    (gives_at _ _ _ _ answer _ _ _ c.in-Open.is gives).outcome

pub returns-in-Left-clause-outcome : goal.returns-in-Left-clause-outcome
returns-in-Left-clause-outcome g c = λ answer gives.
    (gives_at _ _ _ _ answer _ _ _ c.in-Left.is gives).outcome

pub returns-in-Shut-clause-outcome : goal.returns-in-Shut-clause-outcome
returns-in-Shut-clause-outcome g c = λ answer gives.
    placed_outcome _ _ _ answer _ _ c.in-Shut.code _
    (elim c.if-placed.branch [
      | then-placed w ↦
          w.code-is
          ∙ ap (λ (placed : Bool). if_placed placed c.in-Shut.code)
          (sym w.if-placed.true ∙ c.placed.ensures)
      | else-placed w ↦
          w.code-is
          ∙ ap (λ (placed : Bool). if_placed placed c.in-Shut.code)
          (sym w.if-placed.false ∙ c.placed.ensures)
    ])
    (gives_at _ _ _ _ answer _ _ _ c.in-Shut.is gives).outcome
