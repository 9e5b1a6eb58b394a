use Rattle.session.proofs.FlowTold.{told_within}
use Rattle.session.proofs.laws.flow_bytes.Goals as goal

pub returns : goal.returns
returns c = told_within
