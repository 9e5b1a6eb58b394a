use Rattle.std.proofs.Common.{◌≡◌, ◌≤◌, length}
use Rattle.outwriter.specs.States.{IsSettledFrom}
use Rattle.outwriter.proofs.states.entries.take_last.Given as goal

abbrev pub invariant-loop-left : goal.invariant-loop-left
invariant-loop-left l =
    (l.left ≤ length l.streams.entries) × (l.streams.entries ≡ l.fn.streams.entries)
    × IsSettledFrom l.left l.streams.entries

abbrev pub decreases-loop-left : goal.decreases-loop-left
decreases-loop-left l = l.left
