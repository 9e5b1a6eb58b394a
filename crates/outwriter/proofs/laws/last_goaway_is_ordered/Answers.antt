use Rattle.outwriter.proofs.Drained.{last-is-ordered}
use Rattle.outwriter.proofs.laws.last_goaway_is_ordered.Goals as goal

pub returns : goal.returns
returns c = last-is-ordered
