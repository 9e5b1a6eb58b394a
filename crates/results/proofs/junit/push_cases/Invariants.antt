use Rattle.std.proofs.Common.{◌≡◌, ◌++◌, string_bytes, take}
use Rattle.std.specs.List.{flat_map}
use Rattle.results.specs.Junit.{case_line}
use Rattle.results.proofs.junit.push_cases.Given as goal

abbrev pub invariant-loop-outcome : goal.invariant-loop-outcome
invariant-loop-outcome l =
    string_bytes l.xml
    ≡ string_bytes l.fn.xml ++ flat_map case_line (take l.outcome-index l.outcomes)
