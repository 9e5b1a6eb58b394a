use Rattle.std.proofs.Common.{rules}
use Rattle.callhead.specs.StatusTexts.{text_of}
use Rattle.callhead.proofs.percent.read_percent_text.Goals as goal

pub returns : goal.returns
unfolding text_of
returns c = search rules
