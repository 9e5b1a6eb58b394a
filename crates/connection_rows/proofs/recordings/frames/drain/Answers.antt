use Rattle.std.proofs.Common.{refl}
use Rattle.connection_rows.proofs.recordings.frames.drain.Goals as goal

-- where nothing is answered, nothing was taken
pub returns-in-None-clause-unfinished : goal.returns-in-None-clause-unfinished
returns-in-None-clause-unfinished c =
    rw (c.in-None.ensures.kept refl) (c.in-None.ensures.unfinished.0 refl)
