use Rattle.std.proofs.Common.{length}
use Rattle.capture.proofs.Steps.{IsRead}
use Rattle.capture.proofs.reading.packets_of.Given as goal

abbrev pub invariant-loop-rest : goal.invariant-loop-rest
invariant-loop-rest l = IsRead l.records l.rest l.packets.items

abbrev pub decreases-loop-rest : goal.decreases-loop-rest
decreases-loop-rest l = length l.rest
