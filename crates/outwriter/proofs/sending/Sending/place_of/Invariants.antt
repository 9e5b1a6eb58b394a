use Rattle.outwriter.specs.Releases.{HasNoneBelow}
use Rattle.outwriter.proofs.sending.Sending.place_of.Given as goal

abbrev pub invariant-loop-place : goal.invariant-loop-place
invariant-loop-place g l = HasNoneBelow l.place l.fn.id l.fn.self.senders.items
