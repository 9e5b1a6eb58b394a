use Rattle.std.proofs.Common.{length}
use Rattle.trace.proofs.messages.Messages.take.Given as goal

abbrev pub decreases-loop-first : goal.decreases-loop-first
decreases-loop-first l = length l.rest
