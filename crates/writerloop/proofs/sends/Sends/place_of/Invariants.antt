use Rattle.writerloop.specs.Sent.{HasNoneBelow}
use Rattle.writerloop.proofs.sends.Sends.place_of.Given as goal

abbrev pub invariant-loop-place : goal.invariant-loop-place
invariant-loop-place g l = HasNoneBelow l.place l.fn.id l.fn.self.calls.items
