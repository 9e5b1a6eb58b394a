use Rattle.readerloop.proofs.EndLemmas.{fed-front}
use Rattle.readerloop.proofs.laws.fed_front.Goals as goal

pub returns : goal.returns
returns c = fed-front
