use Rattle.testproto.proofs.schema.StreamingInputCallRequestMessage.take.Goals as goal

pub returns-clause-value : goal.returns-clause-value
returns-clause-value c before is = record {
  payload = c.in_ok-take_message.ensures.value before is.payload;
  expect_compressed = c.in_ok-take_message-2.ensures.value before is.expect_compressed;
}
