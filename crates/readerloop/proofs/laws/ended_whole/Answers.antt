use Rattle.readerloop.proofs.EndLemmas.{ended-whole}
use Rattle.readerloop.proofs.laws.ended_whole.Goals as goal

pub returns : goal.returns
returns c = ended-whole
