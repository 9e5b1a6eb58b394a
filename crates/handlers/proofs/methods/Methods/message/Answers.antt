use Rattle.handlers.proofs.AtIndex.{at_index}
use Rattle.handlers.proofs.methods.Methods.message.Goals as goal

pub returns-clause-stands : goal.returns-clause-stands
returns-clause-stands g c =
    at_index _ _ c.args.index _ c.requires c.index-method.ensures c.message_of.ensures.stands

pub returns-clause-answers : goal.returns-clause-answers
returns-clause-answers g c =
    at_index _ _ c.args.index _ c.requires c.index-method.ensures c.message_of.ensures.answers
