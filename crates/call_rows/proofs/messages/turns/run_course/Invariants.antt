use Rattle.std.proofs.Common.{◌≡◌}
use Rattle.call_rows.proofs.messages.turns.run_course.Given as goal

-- the call is that of the method at the index
abbrev pub invariant-loop-event : goal.invariant-loop-event
invariant-loop-event g l = l.run.index ≡ l.fn.index
