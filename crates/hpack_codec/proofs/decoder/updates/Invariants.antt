use Rattle.std.proofs.Common.{length}
use Rattle.hpack_codec.proofs.Decoding.{IsUpdating}
use Rattle.hpack_codec.proofs.decoder.updates.Given as goal

abbrev pub invariant-loop-rest : goal.invariant-loop-rest
invariant-loop-rest l = IsUpdating l.fn.table l.fn.block l.table l.rest

abbrev pub decreases-loop-rest : goal.decreases-loop-rest
decreases-loop-rest l = length l.rest
