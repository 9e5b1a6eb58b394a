use Rattle.std.proofs.Common.{length}
use Rattle.hpack_codec.proofs.Decoding.{IsTaking}
use Rattle.hpack_codec.proofs.decoder.fields_of.Given as goal

abbrev pub invariant-loop-rest : goal.invariant-loop-rest
invariant-loop-rest l = IsTaking l.fn.table l.fn.bytes l.fields.items l.table l.rest l.room

abbrev pub decreases-loop-rest : goal.decreases-loop-rest
decreases-loop-rest l = length l.rest
