use Rattle.readerloop.proofs.LawLemmas.{fed-open}
use Rattle.readerloop.proofs.laws.fed_while_open.Goals as goal

pub returns : goal.returns
returns c = fed-open
