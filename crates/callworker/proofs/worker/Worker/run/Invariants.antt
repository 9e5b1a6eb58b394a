use Rattle.std.proofs.Common.{None}
use Rattle.handlers.specs.Listed.{listed}
use Rattle.callworker.specs.Leaving.{MayBeLeft}
use Rattle.callworker.specs.Runs.{GoesOn, IsOneCall}
use Rattle.callworker.proofs.worker.Worker.run.Given as goal

-- what a turn promises, of all turns so far
abbrev pub invariant-turns : goal.invariant-turns
invariant-turns g l =
    record {
      goes_on :
          GoesOn (λ m. (goal.Method-dyn g (m.vtable, m.value)).answers m.value)
          (λ m. (goal.Method-dyn g (m.vtable, m.value)).stands m.value)
          (listed l.methods) l.fn.run l.run;
      same : IsOneCall l.fn.run l.run;
      left : MayBeLeft l.fn.run None → MayBeLeft l.run None;
    }
