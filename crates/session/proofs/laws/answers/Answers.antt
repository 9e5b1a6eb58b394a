use Rattle.session.proofs.EventLaws.{reached_events}
use Rattle.session.proofs.laws.answers.Goals as goal

pub returns : goal.returns
returns c = reached_events
