-- How many cases of a run ended in which way, and the line that says so.
use Rattle.std.specs.Prelude.{
  ◌≡◌,
  ◌≤◌,
  ℕ,
  ◌+◌,
  ◌&&◌,
  ◌==◌,
  Bool,
  true,
  false,
  List,
  [],
  ◌++◌,
  Option,
  Some,
  if◌then◌else◌,
  codes,
  count_by,
  length,
}
use Rattle.std.specs.Fmt.{decimal}
use Rattle.results.specs.Standings.{fails_the_run, standing_of}
use Rattle.results.specs.Words.{suite_word}
use Rattle.results.specs.declared.outcome.Outcome.{Outcome}
use Rattle.results.specs.declared.standing.Standing.{Standing}
use Rattle.results.specs.declared.summary.Summary.{Summary}
use Rattle.results.specs.declared.words.Level.{Level}
use Rattle.results.specs.declared.words.Suite.{Suite}
use Rattle.results.specs.declared.words.Verdict.{Verdict}

abbrev pub same_verdict : Verdict → Verdict → Bool
same_verdict Verdict.Ok Verdict.Ok = true
same_verdict Verdict.Failed Verdict.Failed = true
same_verdict Verdict.Unsteady Verdict.Unsteady = true
same_verdict Verdict.NotTested Verdict.NotTested = true
same_verdict Verdict.NotApplicable Verdict.NotApplicable = true
same_verdict one other = false

abbrev pub same_standing : Standing → Standing → Bool
same_standing Standing.AsFound Standing.AsFound = true
same_standing Standing.Known Standing.Known = true
same_standing Standing.Mended Standing.Mended = true
same_standing one other = false

abbrev pub has_level : Level → Option Level → Bool
has_level Level.Must (Some Level.Must) = true
has_level Level.Should (Some Level.Should) = true
has_level Level.Ours (Some Level.Ours) = true
has_level level other = false

-- its verdict is this, and the list of known failures says nothing of it
abbrev pub is_found : Verdict → Outcome → Bool
is_found verdict outcome =
    same_standing (standing_of outcome) Standing.AsFound && same_verdict outcome.verdict verdict

abbrev pub stands : Standing → Outcome → Bool
stands standing outcome = same_standing (standing_of outcome) standing

-- a failure at this level that isn't known
abbrev pub fails_at : Level → Outcome → Bool
fails_at level outcome = is_found Verdict.Failed outcome && has_level level outcome.level

abbrev pub summary_of : List Outcome → Summary
summary_of outcomes = record {
  cases = length outcomes;
  ok = count_by (is_found Verdict.Ok) outcomes;
  failed = count_by (is_found Verdict.Failed) outcomes;
  failed_must = count_by (fails_at Level.Must) outcomes;
  failed_should = count_by (fails_at Level.Should) outcomes;
  failed_ours = count_by (fails_at Level.Ours) outcomes;
  unsteady = count_by (is_found Verdict.Unsteady) outcomes;
  not_tested = count_by (is_found Verdict.NotTested) outcomes;
  not_applicable = count_by (is_found Verdict.NotApplicable) outcomes;
  known = count_by (stands Standing.Known) outcomes;
  mended = count_by (stands Standing.Mended) outcomes;
  failing = count_by fails_the_run outcomes;
}

-- each case is counted once: by its verdict, as known or as mended
abbrev pub CountsOnce : Summary → Type 0
CountsOnce summary =
    summary.ok + summary.failed + summary.unsteady + summary.not_tested + summary.not_applicable
    + summary.known + summary.mended
    ≡ summary.cases

-- each failure counts at one level at most
abbrev pub CountsLevels : Summary → Type 0
CountsLevels summary =
    summary.failed_must + summary.failed_should + summary.failed_ours ≤ summary.failed

-- `, COUNT WHAT`, where the count isn't 0
abbrev pub counted : ℕ → List ℕ → List ℕ
counted count what = if count == 0 then [] else codes ", " ++ decimal count ++ codes " " ++ what

abbrev pub case_noun : ℕ → List ℕ
case_noun count = if count == 1 then codes " case, " else codes " cases, "

-- ` (N must, N should, N ours)`, unless no case that failed has a level
abbrev pub levels_text : Summary → List ℕ
levels_text summary =
    if (summary.failed_must == 0) && (summary.failed_should == 0)
    && (summary.failed_ours == 0) then []
    else codes " (" ++ decimal summary.failed_must ++ codes " must, "
    ++ decimal summary.failed_should ++ codes " should, "
    ++ decimal summary.failed_ours ++ codes " ours)"

-- only cases of `wire` have other levels than must
abbrev pub levels_of : Suite → Summary → List ℕ
levels_of Suite.Wire summary = levels_text summary
levels_of suite summary = []

-- how many there are, are ok, and failed
abbrev pub first_counts : Suite → Summary → List ℕ
first_counts suite summary =
    suite_word suite ++ codes ": " ++ decimal summary.cases ++ case_noun summary.cases
    ++ decimal summary.ok ++ codes " ok, " ++ decimal summary.failed ++ codes " failed"
    ++ levels_of suite summary

abbrev pub other_counts : Summary → List ℕ
other_counts summary =
    counted summary.unsteady (codes "unsteady") ++ counted summary.not_tested (codes "not tested")
    ++ counted summary.not_applicable (codes "not applicable")
    ++ counted summary.known (codes "known to fail")
    ++ counted summary.mended (codes "no longer failing")

-- `wire: 4 cases, 1 ok, 2 failed (1 must, 1 should, 0 ours), 1 unsteady in 12 ms`
abbrev pub summary_line : Suite → Summary → ℕ → List ℕ
summary_line suite summary milliseconds =
    first_counts suite summary ++ other_counts summary ++ codes " in "
    ++ decimal milliseconds ++ codes " ms\n"
