use Rattle.std.proofs.Common.{ℕ, List, length}
use Rattle.commands.specs.Telling.{HasTold}
use Rattle.commands.proofs.body.MessagePrinter.tell.Given as goal

abbrev pub invariant-messages : goal.invariant-messages
invariant-messages l = (bytes : List ℕ) → HasTold bytes l.fn.self → HasTold bytes l.self

abbrev pub decreases-messages : goal.decreases-messages
decreases-messages l = length l.self.splitter
