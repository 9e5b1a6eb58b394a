use Rattle.handlers.proofs.AtIndex.{at_index}
use Rattle.handlers.proofs.methods.Methods.end.Goals as goal

pub returns-clause-answers : goal.returns-clause-answers
returns-clause-answers g c =
    at_index _ _ c.args.index _ c.requires c.index-method.ensures c.end_of.ensures.answers
