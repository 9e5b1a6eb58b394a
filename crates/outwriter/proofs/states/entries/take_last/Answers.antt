use Rattle.std.proofs.Common.{arith}
use Rattle.outwriter.proofs.StateLemmas.{taken-length, taken-settled}
use Rattle.outwriter.proofs.states.entries.take_last.Goals as goal

pub returns-then-is_some-clause-owing : goal.returns-then-is_some-clause-owing
returns-then-is_some-clause-owing c =
    omega (arith, taken-length _ _ _ _ c.take_at-taken.ensures, c.loop-left.invariant.0)

pub returns-then-is_some-clause-settled : goal.returns-then-is_some-clause-settled
returns-then-is_some-clause-settled c =
    taken-settled c.loop-left.streams.entries _ c.loop-left.left _
    c.take_at-taken.new.streams.entries c.take_at-taken.ensures
    (omega (arith, c.loop-left.invariant.0)) (omega arith) c.loop-left.invariant.2
