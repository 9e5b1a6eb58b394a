-- What `self` and `drain` print: the lines of cases, and then one that sums up.
use Rattle.std.specs.Prelude.{ℕ, List, [], ◌∷◌, ◌++◌, Result}
use Rattle.cases.specs.Report.{lines_of}
use Rattle.cases.specs.declared.fault.CaseFault.{CaseFault}
use Rattle.cases.specs.declared.report.Outcome.{Outcome as CaseOutcome}
use Rattle.commands.specs.Drain.{drain_report}
use Rattle.commands.specs.declared.drain.Goaway.{Goaway}
use Rattle.results.specs.Summaries.{summary_line, summary_of}
use Rattle.results.specs.declared.outcome.Outcome.{Outcome}
use Rattle.results.specs.declared.words.Suite.{Suite}

-- a line of each case, and one that sums up what results say of them
abbrev pub self_report : List CaseOutcome → List Outcome → ℕ → List ℕ
self_report ended outcomes milliseconds =
    lines_of ended ++ summary_line Suite.SelfTest (summary_of outcomes) milliseconds

-- the GOAWAYs that came, the line of the case, and one that sums up
abbrev pub summed_drain : List Goaway → Result (Unit {0}) CaseFault → Outcome → ℕ → List ℕ
summed_drain goaways answer outcome milliseconds =
    drain_report goaways answer ++ summary_line Suite.Drain (summary_of (outcome ∷ [])) milliseconds
