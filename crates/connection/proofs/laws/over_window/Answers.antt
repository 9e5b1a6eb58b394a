use Rattle.connection.proofs.Limits.{over-window}
use Rattle.connection.proofs.laws.over_window.Goals as goal

pub returns : goal.returns
returns c = over-window
