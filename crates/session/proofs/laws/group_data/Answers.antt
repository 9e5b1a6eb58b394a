use Rattle.session.proofs.StreamRuns.{data_told}
use Rattle.session.proofs.laws.group_data.Goals as goal

pub returns : goal.returns
returns c = data_told
