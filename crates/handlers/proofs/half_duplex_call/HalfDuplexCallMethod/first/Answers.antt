use Rattle.handlers.specs.Requests.{OutputVerdict}
use Rattle.handlers.proofs.OneAnswer.{one_half_duplex_call}
use Rattle.handlers.proofs.Growing.{half_grows}
use Rattle.handlers.proofs.SomeAnswer.{some_half_duplex_call}
use Rattle.handlers.proofs.ShortReplies.{short_half_duplex_call}
use Rattle.handlers.proofs.LastStatus.{half_status}
use Rattle.handlers.proofs.half_duplex_call.HalfDuplexCallMethod.first.Goals as goal

pub returns-clause-one_answer : goal.returns-clause-one_answer
returns-clause-one_answer c = one_half_duplex_call

pub returns-clause-status : goal.returns-clause-status
returns-clause-status c = half_status OutputVerdict

pub returns-clause-some_answer : goal.returns-clause-some_answer
returns-clause-some_answer c = some_half_duplex_call

pub returns-clause-grows : goal.returns-clause-grows
returns-clause-grows c = half_grows OutputVerdict

pub returns-clause-short : goal.returns-clause-short
returns-clause-short c = short_half_duplex_call
