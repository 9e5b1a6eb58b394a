use Rattle.std.proofs.Common.{◌++◌, ℕ, List, take}
use Rattle.std.specs.List.{concat}
use Rattle.lpm.specs.Tails.{Leaves}
use Rattle.lpm.proofs.tail.Tail.read_pieces.Given as goal

-- the pieces before this one are read
abbrev pub invariant-loop-i : goal.invariant-loop-i
invariant-loop-i l =
    (bytes : List ℕ) → Leaves bytes l.fn.self
    → Leaves (bytes ++ concat (take l.i l.pieces.items)) l.self
