use Rattle.std.proofs.Common.{inl, inr}
use Rattle.std.proofs.lemmas.Result.{err_from_is_err_and}
use Rattle.testproto.proofs.schema.SimpleRequestMessage.take.Goals as goal

pub returns-clause-value : goal.returns-clause-value
returns-clause-value c before is = record {
  response_type = c.take_int32.ensures before is.response_type;
  response_size = c.take_int32-2.ensures before is.response_size;
  payload = c.in_ok-take_message.ensures.value before is.payload;
  fill_username = c.take_bool.ensures before is.fill_username;
  fill_oauth_scope = c.take_bool-2.ensures before is.fill_oauth_scope;
  response_compressed = c.in_ok-take_message-2.ensures.value before is.response_compressed;
  response_status = c.in_ok-take_message-3.ensures.value before is.response_status;
  expect_compressed = c.in_ok-take_message-4.ensures.value before is.expect_compressed;
}

pub returns-in_err-take_message-3-clause-refused : goal.returns-in_err-take_message-3-clause-refused
returns-in_err-take_message-3-clause-refused c =
    let p =
    err_from_is_err_and c.from_residual-in_err-take_message-3.result
    c.from_residual-in_err-take_message-3.ensures.1 in
    rw (p.1, p.2) (λ told. inr (inr (inl (c.in_err-take_message-3.ensures.refused told))))
