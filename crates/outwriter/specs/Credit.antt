-- The credit of a run (RFC 9113, section 6.9): what was granted on a stream, and what its
-- WINDOW_UPDATE frames give.
use Rattle.std.specs.Prelude.{ℕ, ◌==◌, List, sum_by, if◌then◌else◌}
use Rattle.outwriter.specs.Frames.{update_on}
use Rattle.outwriter.specs.Steps.{Step, Granted, frames_of}

-- what a step grants on a stream, or on the connection as stream 0
abbrev pub granted_by : ℕ → Step → ℕ
granted_by id (Granted stream n) = if id == stream then n else 0
granted_by id _ = 0

-- all that was granted on it
abbrev pub granted : ℕ → List Step → ℕ
granted id run = sum_by (granted_by id) run

-- the sum of the increments of the WINDOW_UPDATE frames that were written on it
abbrev pub updated : ℕ → List Step → ℕ
updated id run = sum_by (update_on id) (frames_of run)
