use Rattle.readerloop.proofs.HeadLemmas.{head-behind}
use Rattle.readerloop.proofs.laws.head_opens.Goals as goal

pub returns : goal.returns
returns c = head-behind
