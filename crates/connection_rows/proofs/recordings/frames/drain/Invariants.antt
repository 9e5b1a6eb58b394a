use Rattle.std.proofs.Common.{List, ℕ, map}
use Rattle.h2frame.specs.FrameList.{Whole, Joined}
use Rattle.connection_rows.proofs.recordings.frames.drain.Given as goal

-- the frames so far are joined where those at first were
abbrev pub invariant-loop : goal.invariant-loop
invariant-loop l =
    (bytes : List ℕ) → Joined bytes (map Whole l.fn.frames.items) l.fn.reader
    → Joined bytes (map Whole l.frames.items) l.reader
