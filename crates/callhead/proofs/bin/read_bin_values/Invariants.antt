use Rattle.std.proofs.Common.{◌≡◌, ℕ, List, ◌++◌, length}
use Rattle.callhead.specs.BinValues.{IsBinValues}
use Rattle.callhead.proofs.bin.read_bin_values.Given as goal

-- the values of the text are those that were read, and then those of the rest
abbrev pub invariant-loop-comma : goal.invariant-loop-comma
invariant-loop-comma l =
    ((values : List (List ℕ)) → IsBinValues l.rest values
    → IsBinValues l.fn.text (l.values.items ++ values))
    × ((values : List (List ℕ)) → IsBinValues l.fn.text values
    → (tail : List (List ℕ)) × (values ≡ l.values.items ++ tail) × IsBinValues l.rest tail)

abbrev pub decreases-loop-comma : goal.decreases-loop-comma
decreases-loop-comma l = length l.rest
