use Rattle.handlers.specs.Requests.{OutputVerdict}
use Rattle.handlers.proofs.OneAnswer.{one_full_duplex_call}
use Rattle.handlers.proofs.Growing.{full_grows}
use Rattle.handlers.proofs.SomeAnswer.{some_full_duplex_call}
use Rattle.handlers.proofs.ShortReplies.{short_full_duplex_call}
use Rattle.handlers.proofs.LastStatus.{full_status}
use Rattle.handlers.proofs.full_duplex_call.FullDuplexCallMethod.first.Goals as goal

pub returns-clause-one_answer : goal.returns-clause-one_answer
returns-clause-one_answer c = one_full_duplex_call

pub returns-clause-status : goal.returns-clause-status
returns-clause-status c = full_status OutputVerdict

pub returns-clause-some_answer : goal.returns-clause-some_answer
returns-clause-some_answer c = some_full_duplex_call

pub returns-clause-grows : goal.returns-clause-grows
returns-clause-grows c = full_grows

pub returns-clause-short : goal.returns-clause-short
returns-clause-short c = short_full_duplex_call
