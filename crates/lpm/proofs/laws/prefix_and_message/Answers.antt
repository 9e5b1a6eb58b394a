use Rattle.std.proofs.Common.{refl}
use Rattle.lpm.specs.Messages.{frame}
use Rattle.lpm.proofs.laws.prefix_and_message.Goals as goal

pub returns : goal.returns
unfolding frame
returns c = λ message. refl
