-- The verdict on tries.
use Rattle.std.specs.Prelude.{ℕ, ◌==◌, if◌then◌else◌}
use Rattle.results.specs.declared.words.Verdict.{Verdict}

-- the verdict by the numbers of tries and of those that passed: all, none, or some
abbrev pub verdict_of : ℕ → ℕ → Verdict
verdict_of tries passed =
    if passed == tries then Verdict.Ok
    else if passed == 0 then Verdict.Failed
    else Verdict.Unsteady
