-- In a lawful run no more credit is told than was granted (RFC 9113, section 6.9).
use Rattle.std.proofs.Common.{ℕ, ◌+◌, ◌≤◌, ◌==◌, Bool, true, false, List, [], ◌∷◌, arith, min}
use Rattle.std.specs.Prelude.{◌&&◌, if◌then◌else◌}
use Rattle.std.proofs.lemmas.List.Sums.{sum_by-cons}
use Rattle.limits.specs.declared.TheConstants.{MAX_WINDOW}
use Rattle.outwriter.specs.Credit.{granted, granted_by, updated}
use Rattle.outwriter.specs.Frames.{update_on}
use Rattle.outwriter.specs.Histories.{is_stream, resets_stream}
use Rattle.outwriter.specs.Runs.{IsLawful, may_owe, owed}
use Rattle.outwriter.specs.Steps.{Step, Taken, Granted, Written, Returned, frames_of}

-- what was written, with what is owed still
with-owed : (run : List Step) (id : ℕ) → IsLawful run
    → updated id run + owed id run ≤ granted id run
with-owed [] id lawful = omega arith
with-owed (Taken order ∷ run) id lawful =
    omega (
      arith,
      with-owed run id lawful,
      at-most (resets_stream id order && is_stream id) (owed id run),
      sum_by-cons (granted_by id) (Taken order) run,
    )
  where
    at-most : (b : Bool) (n : ℕ) → (if b then 0 else n) ≤ n
    at-most true n = omega arith
    at-most false n = omega arith
with-owed (Granted stream n ∷ run) id lawful =
    omega (
      arith,
      with-owed run id lawful,
      at-most (id == stream) (may_owe id run) (owed id run),
      sum_by-cons (granted_by id) (Granted stream n) run,
    )
  where
    at-most : (here may : Bool) (k : ℕ)
        → (if here && may then min (k + n) MAX_WINDOW else k) ≤ k + (if here then n else 0)
    at-most true true k = omega arith
    at-most true false k = omega arith
    at-most false may k = omega arith
with-owed (Returned stream items ∷ run) id lawful =
    omega (arith, with-owed run id lawful, sum_by-cons (granted_by id) (Returned stream items) run)
with-owed (Written frame ∷ run) id lawful =
    omega (
      arith,
      with-owed run id lawful.2,
      lawful.1.owes id,
      sum_by-cons (update_on id) frame (frames_of run),
      sum_by-cons (granted_by id) (Written frame) run,
    )

pub no-more-than-granted : (id : ℕ) (run : List Step) → IsLawful run
    → updated id run ≤ granted id run
no-more-than-granted id run lawful = omega (arith, with-owed run id lawful)
