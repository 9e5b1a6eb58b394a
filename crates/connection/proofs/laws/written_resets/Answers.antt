use Rattle.connection.proofs.Causes.{written-resets}
use Rattle.connection.proofs.laws.written_resets.Goals as goal

pub returns : goal.returns
returns c = written-resets
