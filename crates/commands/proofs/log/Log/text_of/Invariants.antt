use Rattle.std.proofs.Common.{length}
use Rattle.std.specs.Prelude.{string_bytes}
use Rattle.commands.specs.Lines.{TellsUpTo}
use Rattle.commands.proofs.log.Log.text_of.Given as goal

abbrev pub invariant-batches : goal.invariant-batches
invariant-batches l = TellsUpTo l.fn.batches l.rest (string_bytes l.text)

abbrev pub decreases-batches : goal.decreases-batches
decreases-batches l = length l.rest
