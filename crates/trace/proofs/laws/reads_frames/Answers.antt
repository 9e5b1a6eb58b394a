use Rattle.trace.proofs.Cutting.{frame_is_read}
use Rattle.trace.proofs.laws.reads_frames.Goals as goal

pub returns : goal.returns
returns c = frame_is_read
