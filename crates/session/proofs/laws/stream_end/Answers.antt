use Rattle.session.proofs.StreamFrames.{framed_end}
use Rattle.session.proofs.laws.stream_end.Goals as goal

pub returns : goal.returns
returns c = framed_end
