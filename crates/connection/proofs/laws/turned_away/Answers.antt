use Rattle.connection.proofs.Limits.{one-too-many}
use Rattle.connection.proofs.laws.turned_away.Goals as goal

pub returns : goal.returns
returns c = one-too-many
