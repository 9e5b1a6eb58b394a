use Rattle.handlers.specs.Requests.{InputVerdict}
use Rattle.handlers.proofs.OneSum.{one_input_call}
use Rattle.handlers.proofs.Growing.{sum_grows}
use Rattle.handlers.proofs.SomeAnswer.{some_input_call}
use Rattle.handlers.proofs.ShortReplies.{short_input_call}
use Rattle.handlers.proofs.LastStatus.{sum_status}
use Rattle.handlers.proofs.streaming_input_call.StreamingInputCallMethod.first.Goals as goal

pub returns-clause-one_answer : goal.returns-clause-one_answer
returns-clause-one_answer c = one_input_call

pub returns-clause-status : goal.returns-clause-status
returns-clause-status c = sum_status InputVerdict

pub returns-clause-some_answer : goal.returns-clause-some_answer
returns-clause-some_answer c = some_input_call

pub returns-clause-grows : goal.returns-clause-grows
returns-clause-grows c = sum_grows InputVerdict

pub returns-clause-short : goal.returns-clause-short
returns-clause-short c = short_input_call
