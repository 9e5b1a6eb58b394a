use Rattle.session.proofs.OneGroup.{group_one}
use Rattle.session.proofs.laws.one_outcome.Goals as goal

pub returns : goal.returns
returns c = group_one
