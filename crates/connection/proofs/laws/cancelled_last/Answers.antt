use Rattle.connection.proofs.Limits.{cancelled-last}
use Rattle.connection.proofs.laws.cancelled_last.Goals as goal

pub returns : goal.returns
returns c = cancelled-last
