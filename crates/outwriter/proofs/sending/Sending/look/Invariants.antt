use Rattle.std.proofs.Common.{None}
use Rattle.outwriter.specs.Polls.{coming}
use Rattle.outwriter.specs.StreamLooks.{Gives, LeavesStuck, Picks}
use Rattle.outwriter.proofs.sending.Sending.look.Given as goal

abbrev pub invariant-loop : goal.invariant-loop
invariant-loop g l =
    Picks g.L.Lane.got None l.fn.self l.self × Gives g.L.Lane.got g.L.Lane.out_name l.fn.self l.self
    × LeavesStuck g.L.Lane.got (coming g.L.Lane.got g.L.Lane.ahead) l.id l.fn.self l.self
