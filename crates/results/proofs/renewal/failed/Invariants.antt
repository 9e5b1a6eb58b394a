use Rattle.std.proofs.Common.{◌≡◌, [], map, take}
use Rattle.std.specs.List.{filter_map}
use Rattle.results.specs.KnownList.{entry}
use Rattle.results.specs.Renewals.{failed_entry, with_entries}
use Rattle.results.proofs.renewal.failed.Given as goal

abbrev pub invariant-loop-outcome : goal.invariant-loop-outcome
invariant-loop-outcome l =
    map entry l.all.items
    ≡ with_entries [] (filter_map (failed_entry l.outcomes) (take l.outcome-index l.outcomes))
