use Rattle.std.proofs.Common.{◌≡◌, ◌++◌, map, take, codes}
use Rattle.callhead.specs.Fields.{field_of}
use Rattle.callhead.proofs.request.push_initial.Given as goal

-- the values before this one have their fields
abbrev pub invariant-loop-value : goal.invariant-loop-value
invariant-loop-value l =
    l.fields.items
    ≡ l.initial.fields.items
    ++ map (field_of (codes "x-grpc-test-echo-initial"))
    (map (λ value. value.now) (take l.value-index l.values))
