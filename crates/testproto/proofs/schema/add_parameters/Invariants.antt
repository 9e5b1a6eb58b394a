use Rattle.std.proofs.Common.{◌≡◌, ◌+◌, length, take}
use Rattle.std.specs.List.{AllByRecursion}
use Rattle.pbwire.specs.Spelling.{spelling_of_all}
use Rattle.testproto.specs.Canonical.{repeated_fields, response_parameters_fields}
use Rattle.testproto.specs.Fits.{FitsResponseParameters}
use Rattle.testproto.proofs.schema.add_parameters.Given as goal

abbrev pub invariant-loop-parameters : goal.invariant-loop-parameters
invariant-loop-parameters l =
    (l.size
    ≡ l.total
    + length (spelling_of_all (repeated_fields response_parameters_fields l.number
    (take l.parameters-index l.parameters-items))))
    × AllByRecursion FitsResponseParameters (take l.parameters-index l.parameters-items)
