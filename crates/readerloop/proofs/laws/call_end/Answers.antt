use Rattle.readerloop.proofs.CallEnd.{call-end}
use Rattle.readerloop.proofs.laws.call_end.Goals as goal

pub returns : goal.returns
returns c = call-end
