use Rattle.capture.proofs.Records.{one_file}
use Rattle.capture.proofs.laws.one_capture.Goals as goal

pub returns : goal.returns
returns c = one_file
