use Rattle.session.proofs.Existence.{each_has_events}
use Rattle.session.proofs.laws.some_list.Goals as goal

pub returns : goal.returns
returns c = each_has_events
