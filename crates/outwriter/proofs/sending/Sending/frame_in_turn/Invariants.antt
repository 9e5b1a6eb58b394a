use Rattle.std.proofs.Common.{None}
use Rattle.outwriter.specs.StreamLooks.{Gives, Picks}
use Rattle.outwriter.proofs.sending.Sending.frame_in_turn.Given as goal

abbrev pub invariant-loop : goal.invariant-loop
invariant-loop g l =
    Picks g.L.Lane.got None l.fn.self l.self × Gives g.L.Lane.got g.L.Lane.out_name l.fn.self l.self
