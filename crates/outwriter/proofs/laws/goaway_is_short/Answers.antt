use Rattle.outwriter.proofs.SoundFrames.{short-goaway}
use Rattle.outwriter.proofs.laws.goaway_is_short.Goals as goal

pub returns : goal.returns
returns c = short-goaway
