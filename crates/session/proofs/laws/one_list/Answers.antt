use Rattle.session.proofs.OneEvents.{events_one}
use Rattle.session.proofs.laws.one_list.Goals as goal

pub returns : goal.returns
returns c = events_one
