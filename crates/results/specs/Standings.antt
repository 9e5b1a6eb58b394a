-- What is said of an outcome beside a list of known failures, and which outcomes fail a run.
use Rattle.std.specs.Prelude.{Bool, true, false, Option, Some, None}
use Rattle.results.specs.declared.known_failure.KnownFailure.{KnownFailure}
use Rattle.results.specs.declared.outcome.Outcome.{Outcome}
use Rattle.results.specs.declared.standing.Standing.{Standing}
use Rattle.results.specs.declared.words.Suite.{Suite}
use Rattle.results.specs.declared.words.Verdict.{Verdict}
use Rattle.results.specs.declared.words.Level.{Level}

-- A case that is on the list, and whether it may pass there: it is known where it isn't ok, and
-- mended where it is and may not. One that doesn't apply is neither.
abbrev pub listed_standing : Bool → Verdict → Standing
listed_standing is_unsteady Verdict.Failed = Standing.Known
listed_standing is_unsteady Verdict.Unsteady = Standing.Known
listed_standing is_unsteady Verdict.NotTested = Standing.Known
listed_standing true Verdict.Ok = Standing.AsFound
listed_standing false Verdict.Ok = Standing.Mended
listed_standing is_unsteady Verdict.NotApplicable = Standing.AsFound

abbrev pub standing_by : Option KnownFailure → Verdict → Standing
standing_by None verdict = Standing.AsFound
standing_by (Some known) verdict = listed_standing known.is_unsteady verdict

abbrev pub standing_of : Outcome → Standing
standing_of outcome = standing_by outcome.known outcome.verdict

abbrev pub is_must : Option Level → Bool
is_must (Some Level.Must) = true
is_must level = false

-- A failure fails the run: of wire cases one of level must alone. So does a case that wasn't
-- tested. Nothing else does: unsteady accuses nobody.
abbrev pub fails_by : Suite → Verdict → Option Level → Bool
fails_by Suite.Wire Verdict.Failed level = is_must level
fails_by suite Verdict.Failed level = true
fails_by suite Verdict.NotTested level = true
fails_by suite verdict level = false

abbrev pub fails_alone : Outcome → Bool
fails_alone outcome = fails_by outcome.suite outcome.verdict outcome.level

-- a known failure doesn't fail the run, and one that is mended does
abbrev pub fails_in : Standing → Bool → Bool
fails_in Standing.AsFound fails = fails
fails_in Standing.Known fails = false
fails_in Standing.Mended fails = true

unfoldable pub fails_the_run : Outcome → Bool
fails_the_run outcome = fails_in (standing_of outcome) (fails_alone outcome)
