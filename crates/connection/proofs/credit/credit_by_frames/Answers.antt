use Rattle.connection.proofs.CreditSteps.{by-frames}
use Rattle.connection.proofs.credit.credit_by_frames.Goals as goal

pub returns : goal.returns
returns c = by-frames
