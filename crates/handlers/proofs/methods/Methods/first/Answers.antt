use Rattle.handlers.proofs.AtIndex.{at_index}
use Rattle.handlers.proofs.methods.Methods.first.Goals as goal

pub returns-clause-stands : goal.returns-clause-stands
returns-clause-stands g c =
    at_index _ _ c.args.index _ c.requires c.index-method.ensures c.first_of.ensures.stands

pub returns-clause-answers : goal.returns-clause-answers
returns-clause-answers g c =
    at_index _ _ c.args.index _ c.requires c.index-method.ensures c.first_of.ensures.answers

pub returns-clause-lawful : goal.returns-clause-lawful
returns-clause-lawful g c = at_index _ _ c.args.index _ c.requires c.index-method.ensures (record {
  some = c.first_of.ensures.some;
  one = c.first_of.ensures.one;
  grows = c.first_of.ensures.grows;
  short = c.first_of.ensures.short;
  status = c.first_of.ensures.status;
})
