use Rattle.std.proofs.Common.{◌≡◌, ◌++◌, drop, map}
use Rattle.handlers.specs.Requests.{zeros_of, all_sizes}
use Rattle.handlers.proofs.judge.replies_to.Given as goal

-- the replies so far, and those to the parameters that are left
abbrev pub invariant-loop-asked : goal.invariant-loop-asked
invariant-loop-asked l =
    (map zeros_of l.parameters ≡ l.replies ++ map zeros_of (drop l.asked-index l.parameters))
    × (all_sizes l.parameters ≡ all_sizes (drop l.asked-index l.parameters))
