use Rattle.std.proofs.Common.{◌≡◌, ◌+◌, ◌*◌, ◌≤◌, length}
use Rattle.capture.specs.Checksum.{word_sum}
use Rattle.capture.proofs.checksum.word_sum.Given as goal

-- the sum so far and that of the rest are the sum of all
abbrev pub invariant-loop-rest : goal.invariant-loop-rest
invariant-loop-rest l = record {
  sum : l.sum + word_sum l.rest ≡ word_sum l.bytes;
  small : l.sum + 65536 * length l.rest ≤ 65536 * length l.bytes;
}

abbrev pub decreases-loop-rest : goal.decreases-loop-rest
decreases-loop-rest l = length l.rest
