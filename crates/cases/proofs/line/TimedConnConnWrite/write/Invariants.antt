use Rattle.std.proofs.Common.{◌≡◌}
use Rattle.cases.proofs.line.TimedConnConnWrite.write.Given as goal

abbrev pub invariant-tries : goal.invariant-tries
invariant-tries g l = l.self.has_failed ≡ l.fn.self.has_failed
