use Rattle.pbwire.proofs.OneReading.{some_reading, one_reading}
use Rattle.pbwire.proofs.laws.one_reading.Goals as goal

pub returns-clause-some : goal.returns-clause-some
returns-clause-some c = some_reading

pub returns-clause-no_other : goal.returns-clause-no_other
returns-clause-no_other c = one_reading
