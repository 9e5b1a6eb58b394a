use Rattle.std.proofs.Common.{refl}
use Rattle.outwriter.proofs.laws.goaway_alone.Goals as goal

pub returns : goal.returns
returns c = λ last error. refl
