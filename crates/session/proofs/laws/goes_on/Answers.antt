use Rattle.session.proofs.OneEvents.{events_go_on}
use Rattle.session.proofs.laws.goes_on.Goals as goal

pub returns : goal.returns
returns c = events_go_on
