-- The words of suites, verdicts and levels.
use Rattle.std.specs.Prelude.{ℕ, List, Option, Some, None, if◌then◌else◌, codes}
use Rattle.std.specs.Str.{bytes_eq}
use Rattle.results.specs.declared.words.Suite.{Suite}
use Rattle.results.specs.declared.words.Verdict.{Verdict}
use Rattle.results.specs.declared.words.Level.{Level}

-- the command that runs a suite
abbrev pub suite_word : Suite → List ℕ
suite_word Suite.Case = codes "case"
suite_word Suite.Wire = codes "wire"
suite_word Suite.Misbehave = codes "misbehave"
suite_word Suite.SelfTest = codes "self"
suite_word Suite.Drain = codes "drain"

abbrev pub verdict_word : Verdict → List ℕ
verdict_word Verdict.Ok = codes "ok"
verdict_word Verdict.Failed = codes "failed"
verdict_word Verdict.Unsteady = codes "unsteady"
verdict_word Verdict.NotTested = codes "not tested"
verdict_word Verdict.NotApplicable = codes "not applicable"

abbrev pub level_word : Level → List ℕ
level_word Level.Must = codes "must"
level_word Level.Should = codes "should"
level_word Level.Ours = codes "ours"

-- the level of a word, if it is one's
abbrev pub level_named : List ℕ → Option Level
level_named word =
    if bytes_eq word (codes "must") then Some Level.Must
    else if bytes_eq word (codes "should") then Some Level.Should
    else if bytes_eq word (codes "ours") then Some Level.Ours
    else None
