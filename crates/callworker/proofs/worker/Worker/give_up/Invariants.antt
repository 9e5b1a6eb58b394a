use Rattle.handlers.specs.Listed.{listed}
use Rattle.callworker.specs.Runs.{GoesOn, IsOneCall}
use Rattle.callworker.proofs.worker.Worker.give_up.Given as goal

-- what a turn promises, of all turns so far
abbrev pub invariant-turns : goal.invariant-turns
invariant-turns g l =
    record {
      goes_on :
          GoesOn (λ m. (goal.Method-dyn g (m.vtable, m.value)).answers m.value)
          (λ m. (goal.Method-dyn g (m.vtable, m.value)).stands m.value)
          (listed l.methods) l.fn.run l.run;
      same : IsOneCall l.fn.run l.run;
    }
