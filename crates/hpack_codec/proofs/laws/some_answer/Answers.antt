use Rattle.hpack_codec.proofs.Existence.{each_has_answer}
use Rattle.hpack_codec.proofs.laws.some_answer.Goals as goal

pub returns : goal.returns
returns c = each_has_answer
