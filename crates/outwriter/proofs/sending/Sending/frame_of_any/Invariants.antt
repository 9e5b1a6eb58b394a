use Rattle.std.proofs.Common.{None}
use Rattle.outwriter.specs.Polls.{coming}
use Rattle.outwriter.specs.StreamLooks.{Gives, Picks}
use Rattle.outwriter.proofs.QuietSteps.{StuckBelow}
use Rattle.outwriter.proofs.sending.Sending.frame_of_any.Given as goal

abbrev pub invariant-loop-index : goal.invariant-loop-index
invariant-loop-index g l =
    Picks g.L.Lane.got None l.fn.self l.self × Gives g.L.Lane.got g.L.Lane.out_name l.fn.self l.self
    × StuckBelow g.L.Lane.got (coming g.L.Lane.got g.L.Lane.ahead) l.index l.fn.self l.self
