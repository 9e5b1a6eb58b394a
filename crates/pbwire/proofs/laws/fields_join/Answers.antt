use Rattle.pbwire.proofs.OneReading.{fields-push}
use Rattle.pbwire.proofs.laws.fields_join.Goals as goal

pub returns : goal.returns
returns c = fields-push
