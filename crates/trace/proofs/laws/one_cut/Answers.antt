use Rattle.trace.proofs.Cutting.{one_cut}
use Rattle.trace.proofs.laws.one_cut.Goals as goal

pub returns : goal.returns
returns c = one_cut
