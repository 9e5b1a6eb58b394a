use Rattle.std.proofs.Common.{arith}
use Rattle.std.proofs.lemmas.Grind.{common_steps}
use Rattle.lpm.specs.Messages.{frame}
use Rattle.lpm.proofs.write.write_message.Goals as goal

pub returns-clause-ok : goal.returns-clause-ok
unfolding frame
returns-clause-ok c = grind (arith, common_steps)
