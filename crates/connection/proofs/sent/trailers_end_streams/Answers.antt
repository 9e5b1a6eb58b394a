use Rattle.connection.proofs.StreamEnds.{trailers-end}
use Rattle.connection.proofs.sent.trailers_end_streams.Goals as goal

pub returns : goal.returns
returns c = λ run id sent ended is. trailers-end run id sent ended is
