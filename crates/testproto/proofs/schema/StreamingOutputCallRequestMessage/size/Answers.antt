use Rattle.std.proofs.Common.{◌≡◌, ◌+◌, ◌++◌, length, rules}
use Rattle.pbwire.specs.Spelling.{spelling_of_all}
use Rattle.testproto.specs.Canonical.{
  int32_fields,
  message_fields,
  repeated_fields,
  payload_fields,
  echo_status_fields,
  response_parameters_fields,
}
use Rattle.testproto.proofs.Writing.{chain_len, from_zero}
use Rattle.testproto.proofs.schema.StreamingOutputCallRequestMessage.size.Goals as goal

pub returns-clause-len : goal.returns-clause-len
returns-clause-len c =
    let m = c.args.self.now in
    let response_type : c.in_ok-size.size ≡ 0 + length
    (spelling_of_all (int32_fields 1 m.response_type)) = search rules in
    from_zero c.in_ok-size-4.size _ (chain_len 0 c.in_ok-size-3.size c.in_ok-size-4.size
    (int32_fields 1 m.response_type
    ++ repeated_fields response_parameters_fields 2 m.response_parameters
    ++ message_fields payload_fields 3 m.payload)
    (message_fields echo_status_fields 7 m.response_status)
    (chain_len 0 c.in_ok-size-2.size c.in_ok-size-3.size (int32_fields 1 m.response_type
    ++ repeated_fields response_parameters_fields 2 m.response_parameters)
    (message_fields payload_fields 3 m.payload)
    (chain_len 0 c.in_ok-size.size c.in_ok-size-2.size (int32_fields 1 m.response_type)
    (repeated_fields response_parameters_fields 2 m.response_parameters) response_type
    c.in_ok-size-2.ensures.len) c.in_ok-size-3.ensures.len) c.in_ok-size-4.ensures.len)
