use Rattle.outwriter.proofs.Drained.{none-is-last}
use Rattle.outwriter.proofs.laws.none_is_last.Goals as goal

pub returns : goal.returns
returns c = none-is-last
