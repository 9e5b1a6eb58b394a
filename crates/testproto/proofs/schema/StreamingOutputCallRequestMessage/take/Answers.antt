use Rattle.std.proofs.Common.{inr}
use Rattle.std.proofs.lemmas.Result.{err_from_is_err_and}
use Rattle.testproto.proofs.schema.StreamingOutputCallRequestMessage.take.Goals as goal

pub returns-clause-value : goal.returns-clause-value
returns-clause-value c before is = record {
  response_type = c.take_int32.ensures before is.response_type;
  response_parameters = c.in_ok-take_parameters.ensures.value before is.response_parameters;
  payload = c.in_ok-take_message.ensures.value before is.payload;
  response_status = c.in_ok-take_message-2.ensures.value before is.response_status;
}

pub returns-in_err-take_message-2-clause-refused : goal.returns-in_err-take_message-2-clause-refused
returns-in_err-take_message-2-clause-refused c =
    let p =
    err_from_is_err_and c.from_residual-in_err-take_message-2.result
    c.from_residual-in_err-take_message-2.ensures.1 in
    rw (p.1, p.2) (λ told. inr (inr (c.in_err-take_message-2.ensures.refused told)))
