use Rattle.readerloop.proofs.EndLemmas.{since-opening}
use Rattle.readerloop.proofs.laws.since_opening.Goals as goal

pub returns : goal.returns
returns c = since-opening
