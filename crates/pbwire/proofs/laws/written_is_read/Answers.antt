use Rattle.pbwire.proofs.OneReading.{written_fields}
use Rattle.pbwire.proofs.laws.written_is_read.Goals as goal

pub returns : goal.returns
returns c = written_fields
