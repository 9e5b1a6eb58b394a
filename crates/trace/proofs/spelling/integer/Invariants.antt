use Rattle.std.proofs.Common.{◌<◌, length}
use Rattle.trace.proofs.spelling.integer.Given as goal

abbrev pub invariant-places : goal.invariant-places
invariant-places l = length l.rest < length l.bytes
