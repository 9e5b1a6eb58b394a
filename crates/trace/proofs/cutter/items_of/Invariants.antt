use Rattle.std.proofs.Common.{length}
use Rattle.trace.specs.Cuts.{Cut}
use Rattle.trace.proofs.cutter.items_of.Given as goal

-- the items so far are cut off
abbrev pub invariant-loop-items : goal.invariant-loop-items
invariant-loop-items l = Cut l.fn.stage l.fn.kept.items l.items.items l.stage l.kept.items

abbrev pub decreases-loop-items : goal.decreases-loop-items
decreases-loop-items l = length l.kept.items
