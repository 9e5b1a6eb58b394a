use Rattle.readerloop.proofs.CallData.{call-data}
use Rattle.readerloop.proofs.laws.call_data.Goals as goal

pub returns : goal.returns
returns c = call-data
