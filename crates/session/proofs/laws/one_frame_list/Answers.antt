use Rattle.session.proofs.StreamFrames.{frames_of}
use Rattle.session.proofs.laws.one_frame_list.Goals as goal

pub returns : goal.returns
returns c = frames_of
