use Rattle.session.proofs.StreamOrder.{nothing_before_opening}
use Rattle.session.proofs.laws.before_opening.Goals as goal

pub returns : goal.returns
returns c = nothing_before_opening
