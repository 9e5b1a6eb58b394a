use Rattle.std.proofs.Common.{◌≡◌}
use Rattle.writerloop.proofs.EndedSteps.{CutsBelow}
use Rattle.writerloop.proofs.writing.Writing.cut_stuck.Given as goal

abbrev pub invariant-loop-place : goal.invariant-loop-place
invariant-loop-place g l =
    CutsBelow l.place l.fn.self l.fn.book.book l.book.book × (l.book.stopped ≡ l.fn.book.stopped)
