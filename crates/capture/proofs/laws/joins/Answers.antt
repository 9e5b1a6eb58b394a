use Rattle.capture.proofs.Records.{joined_append}
use Rattle.capture.proofs.laws.joins.Goals as goal

pub returns : goal.returns
returns c = joined_append
