use Rattle.h2frame.proofs.Lists.{longer_list, faulty_list}
use Rattle.h2frame.proofs.laws.goes_on.Goals as goal

pub returns-clause-begins : goal.returns-clause-begins
returns-clause-begins c = longer_list

pub returns-clause-stops : goal.returns-clause-stops
returns-clause-stops c = faulty_list
