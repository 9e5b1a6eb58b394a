use Rattle.std.proofs.Common.{length}
use Rattle.capture.proofs.Steps.{IsSoFar}
use Rattle.capture.proofs.conversation.Conversation.send.Given as goal

abbrev pub invariant-loop-rest : goal.invariant-loop-rest
invariant-loop-rest l = IsSoFar l.self l.now l.time l.side l.bytes l.rest l.text.items

abbrev pub decreases-loop-rest : goal.decreases-loop-rest
decreases-loop-rest l = length l.rest
