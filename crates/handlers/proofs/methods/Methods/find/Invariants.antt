use Rattle.std.proofs.Common.{◌≢◌}
use Rattle.std.specs.List.{AllWithin}
use Rattle.handlers.proofs.methods.Methods.find.Given as goal

-- no method before this one has the path
abbrev pub invariant-loop-index : goal.invariant-loop-index
invariant-loop-index g l =
    AllWithin (λ method.
    (goal.Method-dyn g (method.vtable, method.value)).name method.value ≢ l.path)
    l.self.items.items 0 l.index
