use Rattle.session.proofs.StreamFrames.{framed_data}
use Rattle.session.proofs.laws.stream_data.Goals as goal

pub returns : goal.returns
returns c = framed_data
