use Rattle.std.proofs.Common.{inl, refl}
use Rattle.callworker.proofs.Turns.{left_as}
use Rattle.callworker.proofs.worker.shut_of.Goals as goal

pub returns-in-Open-clause-given : goal.returns-in-Open-clause-given
returns-in-Open-clause-given c = rw c.in-Open.is (left_as _ _ c.leave.ensures.put)

pub returns-in-Shut-clause-given : goal.returns-in-Shut-clause-given
returns-in-Shut-clause-given c = rw c.in-Shut.is (inl refl)
