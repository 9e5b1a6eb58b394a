use Rattle.std.proofs.Common.{◌≡◌, map, take}
use Rattle.std.specs.List.{filter_map}
use Rattle.results.specs.KnownList.{entry}
use Rattle.results.specs.Renewals.{unrun_entry, with_entries}
use Rattle.results.proofs.renewal.push_others.Given as goal

abbrev pub invariant-loop-other : goal.invariant-loop-other
invariant-loop-other l =
    map entry l.all.items
    ≡ with_entries (map entry l.fn.all.items)
    (filter_map (unrun_entry l.outcomes) (take l.other-index l.known))
