use Rattle.std.proofs.Common.{List, ℕ, true, subst}
use Rattle.std.specs.Prelude.{IfOk}
use Rattle.handlers.specs.declared.step.MethodStep.{MethodStep}
use Rattle.handlers.specs.Steps.{joined}
use Rattle.handlers.proofs.methods.end_of.Goals as goal

-- the method in the box is the method that was called
pub returns-clause-answers : goal.returns-clause-answers
returns-clause-answers g c =
    subst (λ method. IfOk c.end.result (λ step. (messages : List (List ℕ)) (given : MethodStep)
    → (goal.Method-dyn g method).stands method.1 c.args.state.now messages given
    → (goal.Method-dyn g method).answers method.1 messages true (joined given step)))
    c.deref_box-1.ensures.1 c.end.ensures.0
