use Rattle.session.proofs.StreamOrder.{no_data_behind_end}
use Rattle.session.proofs.laws.behind_end.Goals as goal

pub returns : goal.returns
returns c = no_data_behind_end
