use Rattle.outwriter.proofs.CreditGranted.{no-more-than-granted}
use Rattle.outwriter.proofs.laws.no_more_than_granted.Goals as goal

pub returns : goal.returns
returns c = no-more-than-granted
