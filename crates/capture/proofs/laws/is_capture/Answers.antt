use Rattle.std.proofs.Common.{refl}
use Rattle.capture.proofs.laws.is_capture.Goals as goal

pub returns : goal.returns
returns c = λ head text packets is are. (head, text, refl, is, are)
