use Rattle.readerloop.proofs.HeadLemmas.{one-head}
use Rattle.readerloop.proofs.laws.one_head.Goals as goal

pub returns : goal.returns
returns c = one-head
