use Rattle.testproto.proofs.schema.SimpleResponseMessage.take.Goals as goal

pub returns-clause-value : goal.returns-clause-value
returns-clause-value c before is = record {
  payload = c.in_ok-take_message.ensures.value before is.payload;
  username = c.in_ok-take_text.ensures.value before is.username;
  oauth_scope = c.in_ok-take_text-2.ensures.value before is.oauth_scope;
}
