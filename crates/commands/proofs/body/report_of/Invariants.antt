use Rattle.std.proofs.Common.{◌≡◌, ℕ, List, ◌++◌, length}
use Rattle.commands.specs.Telling.{HasToldAll}
use Rattle.commands.proofs.body.report_of.Given as goal

abbrev pub invariant-pieces : goal.invariant-pieces
invariant-pieces l = (fed : List ℕ) × (l.fn.bytes ≡ fed ++ l.rest) × HasToldAll fed l.telling

abbrev pub decreases-pieces : goal.decreases-pieces
decreases-pieces l = length l.rest
