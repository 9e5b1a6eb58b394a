use Rattle.std.proofs.Common.{◌≤◌, ◌-◌, ◌++◌, ℕ, List, length, take}
use Rattle.lpm.specs.Tails.{Leaves}
use Rattle.lpm.proofs.tail.Tail.read.Given as goal

-- the piece is read as far as here
abbrev pub invariant-loop-at : goal.invariant-loop-at
invariant-loop-at l =
    (l.at ≤ length l.piece)
    × ((bytes : List ℕ) → Leaves bytes l.fn.self → Leaves (bytes ++ take l.at l.piece) l.self)

abbrev pub decreases-loop-at : goal.decreases-loop-at
decreases-loop-at l = length l.piece - l.at
