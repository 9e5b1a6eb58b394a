use Rattle.testproto.proofs.schema.StreamingOutputCallResponseMessage.take.Goals as goal

pub returns-clause-value : goal.returns-clause-value
returns-clause-value c before is = record {
  payload = c.in_ok-take_message.ensures.value before is.payload;
}
