use Rattle.std.proofs.Common.{◌≡◌, ◌++◌, map, take, codes, All}
use Rattle.callhead.specs.Fields.{field_of}
use Rattle.callhead.specs.BinValues.{unpadded, AreBytes}
use Rattle.callhead.proofs.request.push_trailing.Given as goal

-- the values before this one have their fields, and are bytes
abbrev pub invariant-loop-value : goal.invariant-loop-value
invariant-loop-value l =
    (l.fields.items
    ≡ l.initial.fields.items
    ++ map (λ value. field_of (codes "x-grpc-test-echo-trailing-bin") (unpadded value))
    (map (λ value. value.now) (take l.value-index l.values)))
    × All (λ value. AreBytes value.now) (take l.value-index l.values)
