use Rattle.std.proofs.Common.{length}
use Rattle.trace.proofs.spelling.spellings.Given as goal

abbrev pub decreases-loop-spelling : goal.decreases-loop-spelling
decreases-loop-spelling l = length l.rest
