use Rattle.readerloop.proofs.Resets.{reset-ordered}
use Rattle.readerloop.proofs.laws.reset_is_ordered.Goals as goal

pub returns : goal.returns
returns c = reset-ordered
