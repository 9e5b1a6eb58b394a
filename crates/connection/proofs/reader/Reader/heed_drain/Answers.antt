use Rattle.connection.proofs.HeardActs.{cuts-none}
use Rattle.connection.proofs.reader.Reader.heed_drain.Goals as goal

pub returns-in_default-clause-cuts : goal.returns-in_default-clause-cuts
returns-in_default-clause-cuts g c = cuts-none _ _ _
