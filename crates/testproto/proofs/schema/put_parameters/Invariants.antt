use Rattle.std.proofs.Common.{◌≡◌, ◌++◌, take}
use Rattle.pbwire.specs.Spelling.{spelling_of_all}
use Rattle.testproto.specs.Canonical.{repeated_fields, response_parameters_fields}
use Rattle.testproto.proofs.schema.put_parameters.Given as goal

abbrev pub invariant-loop-parameters : goal.invariant-loop-parameters
invariant-loop-parameters l =
    l.out.items
    ≡ l.initial.out.items
    ++ spelling_of_all (repeated_fields response_parameters_fields l.number
    (take l.parameters-index l.parameters-items))
