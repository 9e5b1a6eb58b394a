use Rattle.h2frame.proofs.Lists.{joined_append, joined_more}
use Rattle.h2frame.proofs.Existence.{joined_frames}
use Rattle.h2frame.proofs.laws.joins.Goals as goal

pub returns-clause-joined : goal.returns-clause-joined
returns-clause-joined c = joined_append

pub returns-clause-longer : goal.returns-clause-longer
returns-clause-longer c = joined_more

pub returns-clause-written : goal.returns-clause-written
returns-clause-written c = joined_frames
