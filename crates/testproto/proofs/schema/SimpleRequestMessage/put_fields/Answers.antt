use Rattle.std.proofs.Common.{◌≡◌, ◌++◌, rules}
use Rattle.pbwire.specs.Spelling.{spelling_of_all}
use Rattle.testproto.specs.Canonical.{
  int32_fields,
  bool_fields,
  message_fields,
  payload_fields,
  bool_value_fields,
  echo_status_fields,
}
use Rattle.testproto.proofs.Writing.{chain}
use Rattle.testproto.proofs.schema.SimpleRequestMessage.put_fields.Goals as goal

pub returns-clause-ok : goal.returns-clause-ok
returns-clause-ok c =
    let m = c.args.self.now in
    let response_type : c.put_int32.new.out.items ≡ c.args.out.now.items ++ spelling_of_all
    (int32_fields 1 m.response_type) = search rules in
    let response_size : c.put_int32-2.new.out.items ≡ c.put_int32.new.out.items ++ spelling_of_all
    (int32_fields 2 m.response_size) = search rules in
    chain c.args.out.now.items _ _ (int32_fields 1 m.response_type ++ int32_fields 2 m.response_size
    ++ message_fields payload_fields 3 m.payload ++ bool_fields 4 m.fill_username
    ++ bool_fields 5 m.fill_oauth_scope ++ message_fields bool_value_fields 6 m.response_compressed
    ++ message_fields echo_status_fields 7 m.response_status)
    (message_fields bool_value_fields 8 m.expect_compressed)
    (chain c.args.out.now.items _ _ (int32_fields 1 m.response_type
    ++ int32_fields 2 m.response_size ++ message_fields payload_fields 3 m.payload
    ++ bool_fields 4 m.fill_username ++ bool_fields 5 m.fill_oauth_scope
    ++ message_fields bool_value_fields 6 m.response_compressed)
    (message_fields echo_status_fields 7 m.response_status)
    (chain c.args.out.now.items _ _ (int32_fields 1 m.response_type
    ++ int32_fields 2 m.response_size ++ message_fields payload_fields 3 m.payload
    ++ bool_fields 4 m.fill_username ++ bool_fields 5 m.fill_oauth_scope)
    (message_fields bool_value_fields 6 m.response_compressed)
    (chain c.args.out.now.items _ _ (int32_fields 1 m.response_type
    ++ int32_fields 2 m.response_size ++ message_fields payload_fields 3 m.payload
    ++ bool_fields 4 m.fill_username) (bool_fields 5 m.fill_oauth_scope)
    (chain c.args.out.now.items _ _ (int32_fields 1 m.response_type
    ++ int32_fields 2 m.response_size ++ message_fields payload_fields 3 m.payload)
    (bool_fields 4 m.fill_username)
    (chain c.args.out.now.items _ _
    (int32_fields 1 m.response_type ++ int32_fields 2 m.response_size)
    (message_fields payload_fields 3 m.payload)
    (chain c.args.out.now.items _ _ (int32_fields 1 m.response_type)
    (int32_fields 2 m.response_size) response_type response_size) c.in_ok-put_message.ensures.ok)
    c.in_ok-put_bool.ensures.ok) c.in_ok-put_bool-2.ensures.ok) c.in_ok-put_message-2.ensures.ok)
    c.in_ok-put_message-3.ensures.ok) c.in_ok-put_message-4.ensures.ok
