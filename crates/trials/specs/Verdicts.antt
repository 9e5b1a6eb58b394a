-- What the verdict of results on a case is.
use Rattle.std.specs.Prelude.{Option, Some, None, Result}
use Rattle.std.specs.Result.{result_err}
use Rattle.cases.specs.declared.fault.CaseFault.{CaseFault}
use Rattle.cases.specs.declared.report.Outcome.{Outcome as CaseOutcome}
use Rattle.results.specs.declared.words.Verdict.{Verdict}

-- the verdict on a case that failed for a fault, or passed
abbrev pub verdict_by : Option CaseFault → Verdict
verdict_by None = Verdict.Ok
verdict_by (Some fault) = Verdict.Failed

abbrev pub verdict_of : Result (Unit {0}) CaseFault → Verdict
verdict_of answer = verdict_by (result_err answer)

abbrev pub verdict_on : CaseOutcome → Verdict
verdict_on ended = verdict_of ended.answer
