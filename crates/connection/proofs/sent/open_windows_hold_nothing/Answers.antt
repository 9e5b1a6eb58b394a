use Rattle.connection.proofs.StreamEnds.{open-windows}
use Rattle.connection.proofs.sent.open_windows_hold_nothing.Goals as goal

pub returns : goal.returns
returns c = λ run id sent ended flows. open-windows run id sent ended flows
