use Rattle.std.proofs.Common.{◌≡◌}
use Rattle.std.specs.Io.KnownBytes.{Keeps}
use Rattle.device.proofs.std_device.StdDeviceConnRead.read.Given as goal

abbrev pub invariant-tries : goal.invariant-tries
invariant-tries g l = record {
  told : Keeps (g.T.Read.remaining l.fn.self.device) (g.T.Read.remaining l.self.device);
  unmarked : l.self.failed ≡ l.fn.self.failed;
}
