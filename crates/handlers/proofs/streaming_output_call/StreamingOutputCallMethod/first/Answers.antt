use Rattle.handlers.specs.Requests.{OutputVerdict}
use Rattle.handlers.proofs.OneAnswer.{one_output_call}
use Rattle.handlers.proofs.Growing.{single_grows}
use Rattle.handlers.proofs.SomeAnswer.{some_output_call}
use Rattle.handlers.proofs.ShortReplies.{short_output_call}
use Rattle.handlers.proofs.LastStatus.{single_status}
use Rattle.handlers.proofs.streaming_output_call.StreamingOutputCallMethod.first.Goals as goal

pub returns-clause-one_answer : goal.returns-clause-one_answer
returns-clause-one_answer c = one_output_call

pub returns-clause-status : goal.returns-clause-status
returns-clause-status c = single_status OutputVerdict

pub returns-clause-some_answer : goal.returns-clause-some_answer
returns-clause-some_answer c = some_output_call

pub returns-clause-grows : goal.returns-clause-grows
returns-clause-grows c = single_grows OutputVerdict

pub returns-clause-short : goal.returns-clause-short
returns-clause-short c = short_output_call
