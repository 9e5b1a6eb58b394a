-- How a call ends.
use Rattle.handlers.specs.declared.status.Status.{Status}
use Rattle.callrun.specs.declared.ending.Ending.{Ending}
use Rattle.callrun.specs.declared.ending.Ending.TheVariants.{Method, Cause}
use Rattle.callrun.specs.Statuses.{status_of}

abbrev pub ends_with : Ending → Status
ends_with (Method status) = status
ends_with (Cause cause) = status_of cause
