use Rattle.std.proofs.Common.{◌≡◌}
use Rattle.std.specs.Io.KnownBytes.{Keeps}
use Rattle.device.proofs.std_device.StdDeviceConnWrite.write.Given as goal

abbrev pub invariant-tries : goal.invariant-tries
invariant-tries g l = record {
  told : Keeps (g.T.Write.contents l.fn.self.device) (g.T.Write.contents l.self.device);
  unmarked : l.self.failed ≡ l.fn.self.failed;
}
