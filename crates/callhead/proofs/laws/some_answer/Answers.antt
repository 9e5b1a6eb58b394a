use Rattle.callhead.proofs.Existence.{each_has_answer}
use Rattle.callhead.proofs.laws.some_answer.Goals as goal

pub returns : goal.returns
returns c = each_has_answer
