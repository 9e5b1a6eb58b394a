use Rattle.std.proofs.Common.{refl}
use Rattle.connection.proofs.HeardActs.{collects-none}
use Rattle.connection.proofs.reader.Reader.collect.Goals as goal

pub returns-else-ne-clause-collects : goal.returns-else-ne-clause-collects
returns-else-ne-clause-collects g c = collects-none _ _ refl
