use Rattle.std.proofs.Common.{◌≡◌, map, take}
use Rattle.std.specs.Io.KnownBytes.{Appends}
use Rattle.std.specs.List.{FoldsTo}
use Rattle.cases.specs.Report.{all_cases, lines_of}
use Rattle.cases.proofs.report.run_all.Given as goal

abbrev pub invariant-loop-case : goal.invariant-loop-case
invariant-loop-case g l =
    goal.F-IsAlwaysCallable g l.run
    × (map (λ outcome. outcome.case) l.outcomes.items ≡ take l.case-index all_cases)
    × FoldsTo (λ before outcome after. goal.F-step g before outcome.case outcome.answer after)
    l.fn.run l.outcomes.items l.run
    × Appends (g.W.ConnWrite.contents l.fn.output) (g.W.ConnWrite.contents l.output)
    (lines_of l.outcomes.items)
