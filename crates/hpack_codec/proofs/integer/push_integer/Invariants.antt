use Rattle.std.proofs.Common.{◌+◌, ◌-◌}
use Rattle.hpack_codec.proofs.Writing.{IsWriting}
use Rattle.hpack_codec.proofs.integer.push_integer.Given as goal

abbrev pub invariant-loop-rest : goal.invariant-loop-rest
invariant-loop-rest l =
    IsWriting l.fn.out.items l.out.items (l.flags + l.most) (l.number - l.most) l.rest

abbrev pub decreases-loop-rest : goal.decreases-loop-rest
decreases-loop-rest l = l.rest
