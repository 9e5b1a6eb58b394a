-- What is seen of an std reader or writer with a mark of failure.
use Rattle.std.specs.Prelude.{Bool}
use Rattle.device.specs.declared.std_device.StdDevice.{StdDevice}

-- the reader or writer
abbrev pub device_of : {T : Type 0} → StdDevice T → T
device_of marked = marked.device

-- the mark of failure
abbrev pub has_failed : {T : Type 0} → StdDevice T → Bool
has_failed marked = marked.failed
