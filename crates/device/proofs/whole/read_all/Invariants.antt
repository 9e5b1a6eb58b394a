use Rattle.std.proofs.Common.{◌≡◌, ◌-◌, ◌^◌, vec_len}
use Rattle.std.specs.Io.KnownBytes.{Consumes}
use Rattle.device.proofs.whole.read_all.Given as goal

abbrev pub invariant-reads : goal.invariant-reads
invariant-reads g l = record {
  told : Consumes (g.R.ConnRead.remaining l.fn.input) (g.R.ConnRead.remaining l.input) l.all.items;
  unmarked : g.R.ConnRead.failed l.input ≡ g.R.ConnRead.failed l.fn.input;
}

abbrev pub decreases-reads : goal.decreases-reads
decreases-reads g l = 2 ^ 64 - vec_len l.all
