use Rattle.session.proofs.EventLaws.{fatal_stays}
use Rattle.session.proofs.laws.ends.Goals as goal

pub returns : goal.returns
returns c = fatal_stays
