use Rattle.std.proofs.Common.{subst}
use Rattle.handlers.specs.Answers.{HasAnswer}
use Rattle.handlers.proofs.methods.first_of.Goals as goal

-- the method in the box is the method that was called
pub returns-clause-some : goal.returns-clause-some
returns-clause-some g c =
    subst (λ method. HasAnswer ((goal.Method-dyn g method).answers method.1))
    c.deref_box-1.ensures.1 c.first.ensures.1.1.0
