use Rattle.readerloop.proofs.AccountFrames.{account-by-frames}
use Rattle.readerloop.proofs.laws.account_by_frames.Goals as goal

pub returns : goal.returns
returns c = account-by-frames
