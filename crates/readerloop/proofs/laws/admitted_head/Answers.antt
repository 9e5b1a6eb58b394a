use Rattle.readerloop.proofs.HeadLemmas.{admitted-head}
use Rattle.readerloop.proofs.laws.admitted_head.Goals as goal

pub returns : goal.returns
returns c = admitted-head
