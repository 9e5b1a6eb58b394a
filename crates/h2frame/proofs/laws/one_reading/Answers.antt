use Rattle.h2frame.proofs.Lists.{one_list}
use Rattle.h2frame.proofs.Existence.{each_has_list}
use Rattle.h2frame.proofs.laws.one_reading.Goals as goal

pub returns-clause-one : goal.returns-clause-one
returns-clause-one c = one_list

pub returns-clause-some : goal.returns-clause-some
returns-clause-some c = each_has_list
