use Rattle.std.proofs.Common.{◌≡◌, ℕ, List, ◌++◌, length}
use Rattle.std.specs.Io.KnownBytes.{Appends}
use Rattle.device.proofs.whole.write_all.Given as goal

abbrev pub invariant-writes : goal.invariant-writes
invariant-writes g l = record {
  told : (prefix : List ℕ) × (l.bytes ≡ prefix ++ l.rest)
      × Appends (g.W.ConnWrite.contents l.fn.output) (g.W.ConnWrite.contents l.output) prefix;
  unmarked : g.W.ConnWrite.failed l.output ≡ g.W.ConnWrite.failed l.fn.output;
}

abbrev pub decreases-writes : goal.decreases-writes
decreases-writes g l = length l.rest
