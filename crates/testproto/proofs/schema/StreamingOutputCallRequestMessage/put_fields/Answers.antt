use Rattle.std.proofs.Common.{◌≡◌, ◌++◌, rules}
use Rattle.pbwire.specs.Spelling.{spelling_of_all}
use Rattle.testproto.specs.Canonical.{
  int32_fields,
  message_fields,
  repeated_fields,
  payload_fields,
  echo_status_fields,
  response_parameters_fields,
}
use Rattle.testproto.proofs.Writing.{chain}
use Rattle.testproto.proofs.schema.StreamingOutputCallRequestMessage.put_fields.Goals as goal

pub returns-clause-ok : goal.returns-clause-ok
returns-clause-ok c =
    let m = c.args.self.now in
    let response_type : c.put_int32.new.out.items ≡ c.args.out.now.items ++ spelling_of_all
    (int32_fields 1 m.response_type) = search rules in
    chain c.args.out.now.items _ _ (int32_fields 1 m.response_type
    ++ repeated_fields response_parameters_fields 2 m.response_parameters
    ++ message_fields payload_fields 3 m.payload)
    (message_fields echo_status_fields 7 m.response_status)
    (chain c.args.out.now.items _ _ (int32_fields 1 m.response_type
    ++ repeated_fields response_parameters_fields 2 m.response_parameters)
    (message_fields payload_fields 3 m.payload)
    (chain c.args.out.now.items _ _ (int32_fields 1 m.response_type)
    (repeated_fields response_parameters_fields 2 m.response_parameters) response_type
    c.in_ok-put_parameters.ensures.ok) c.in_ok-put_message.ensures.ok)
    c.in_ok-put_message-2.ensures.ok
