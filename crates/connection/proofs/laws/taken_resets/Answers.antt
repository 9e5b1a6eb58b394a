use Rattle.connection.proofs.Causes.{taken-resets}
use Rattle.connection.proofs.laws.taken_resets.Goals as goal

pub returns : goal.returns
returns c = taken-resets
