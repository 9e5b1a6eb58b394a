use Rattle.session.proofs.StreamRuns.{end_told_of}
use Rattle.session.proofs.laws.group_end.Goals as goal

pub returns : goal.returns
returns c = end_told_of
