use Rattle.std.proofs.Common.{◌≡◌}
use Rattle.lpm.specs.Fronts.{waiting, left_over}
use Rattle.lpm.proofs.splitter.Splitter.next.Given as goal

-- the same bytes wait
abbrev pub invariant-loop-split : goal.invariant-loop-split
invariant-loop-split l =
    waiting l.self-inside.joined.bytes.items l.self-inside.piece l.self-inside.later.items
    ≡ l.fn.self

abbrev pub decreases-loop-split : goal.decreases-loop-split
decreases-loop-split l = left_over l.self-inside.piece l.self-inside.later.items
