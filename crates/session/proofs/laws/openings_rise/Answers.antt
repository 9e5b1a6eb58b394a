use Rattle.session.proofs.OpeningOrder.{events_rise}
use Rattle.session.proofs.laws.openings_rise.Goals as goal

pub returns : goal.returns
returns c = events_rise
