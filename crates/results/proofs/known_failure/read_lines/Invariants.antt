use Rattle.std.proofs.Common.{◌≡◌, map, take}
use Rattle.results.specs.KnownList.{AreGood, entries, entry}
use Rattle.results.proofs.known_failure.read_lines.Given as goal

abbrev pub invariant-loop-place : goal.invariant-loop-place
invariant-loop-place l =
    (map entry l.all.items ≡ entries (map (λ line. line.now) (take l.place l.all_lines)))
    × AreGood (map entry l.all.items)
