use Rattle.callrun.proofs.handling.Handling.new.Goals as goal

pub returns-clause-lawful : goal.returns-clause-lawful
returns-clause-lawful g c = record {
  some = c.first.ensures.1.1.0;
  one = c.first.ensures.1.1.1.0;
  grows = c.first.ensures.1.1.1.1.0;
  short = c.first.ensures.1.1.1.1.1.0;
  status = c.first.ensures.1.1.1.1.1.1;
}
