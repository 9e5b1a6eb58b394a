use Rattle.connection.proofs.Causes.{ordered-resets}
use Rattle.connection.proofs.laws.ordered_resets.Goals as goal

pub returns : goal.returns
returns c = ordered-resets
