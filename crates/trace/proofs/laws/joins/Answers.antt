use Rattle.trace.proofs.Cutting.{cut_join}
use Rattle.trace.proofs.laws.joins.Goals as goal

pub returns : goal.returns
returns c = cut_join
