use Rattle.testproto.proofs.schema.ResponseParametersMessage.take.Goals as goal

pub returns-clause-value : goal.returns-clause-value
returns-clause-value c before is = record {
  size = c.take_int32.ensures before is.size;
  interval_us = c.take_int32-2.ensures before is.interval_us;
  compressed = c.in_ok-take_message.ensures.value before is.compressed;
}
