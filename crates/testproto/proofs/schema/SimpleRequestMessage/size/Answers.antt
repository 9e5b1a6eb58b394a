use Rattle.std.proofs.Common.{◌≡◌, ◌+◌, ◌^◌, ◌≤◌, ◌++◌, length, rules, arith}
use Rattle.pbwire.specs.Spelling.{spelling_of_all}
use Rattle.testproto.specs.Canonical.{
  int32_fields,
  bool_fields,
  message_fields,
  payload_fields,
  bool_value_fields,
  echo_status_fields,
}
use Rattle.testproto.proofs.Writing.{chain_len, from_zero, len_append, if_none}
use Rattle.testproto.proofs.schema.SimpleRequestMessage.size.Goals as goal

pub returns-clause-len : goal.returns-clause-len
returns-clause-len c =
    let m = c.args.self.now in
    let response_type : c.in_ok-size.size ≡ 0 + length
    (spelling_of_all (int32_fields 1 m.response_type)) = search rules in
    let response_size : c.in_ok-size-2.size ≡ c.in_ok-size.size + length
    (spelling_of_all (int32_fields 2 m.response_size)) = search rules in
    from_zero c.in_ok-size-8.size _ (chain_len 0 c.in_ok-size-7.size c.in_ok-size-8.size
    (int32_fields 1 m.response_type
    ++ int32_fields 2 m.response_size ++ message_fields payload_fields 3 m.payload
    ++ bool_fields 4 m.fill_username ++ bool_fields 5 m.fill_oauth_scope
    ++ message_fields bool_value_fields 6 m.response_compressed
    ++ message_fields echo_status_fields 7 m.response_status)
    (message_fields bool_value_fields 8 m.expect_compressed)
    (chain_len 0 c.in_ok-size-6.size c.in_ok-size-7.size (int32_fields 1 m.response_type
    ++ int32_fields 2 m.response_size ++ message_fields payload_fields 3 m.payload
    ++ bool_fields 4 m.fill_username ++ bool_fields 5 m.fill_oauth_scope
    ++ message_fields bool_value_fields 6 m.response_compressed)
    (message_fields echo_status_fields 7 m.response_status)
    (chain_len 0 c.in_ok-size-5.size c.in_ok-size-6.size (int32_fields 1 m.response_type
    ++ int32_fields 2 m.response_size ++ message_fields payload_fields 3 m.payload
    ++ bool_fields 4 m.fill_username ++ bool_fields 5 m.fill_oauth_scope)
    (message_fields bool_value_fields 6 m.response_compressed)
    (chain_len 0 c.in_ok-size-4.size c.in_ok-size-5.size (int32_fields 1 m.response_type
    ++ int32_fields 2 m.response_size ++ message_fields payload_fields 3 m.payload
    ++ bool_fields 4 m.fill_username) (bool_fields 5 m.fill_oauth_scope)
    (chain_len 0 c.in_ok-size-3.size c.in_ok-size-4.size (int32_fields 1 m.response_type
    ++ int32_fields 2 m.response_size ++ message_fields payload_fields 3 m.payload)
    (bool_fields 4 m.fill_username)
    (chain_len 0 c.in_ok-size-2.size c.in_ok-size-3.size
    (int32_fields 1 m.response_type ++ int32_fields 2 m.response_size)
    (message_fields payload_fields 3 m.payload)
    (chain_len 0 c.in_ok-size.size c.in_ok-size-2.size (int32_fields 1 m.response_type)
    (int32_fields 2 m.response_size) response_type response_size) c.in_ok-size-3.ensures.len)
    c.in_ok-size-4.ensures.len) c.in_ok-size-5.ensures.len) c.in_ok-size-6.ensures.len)
    c.in_ok-size-7.ensures.len) c.in_ok-size-8.ensures.len)

pub returns-in_err-size-2-clause-too_long : goal.returns-in_err-size-2-clause-too_long
returns-in_err-size-2-clause-too_long c =
    let m = c.args.self.now in
    let response_type : c.in_ok-size.size ≡ 0 + length
    (spelling_of_all (int32_fields 1 m.response_type)) = search rules in
    let too_long : 2 ^ 64 ≤ c.in_ok-size.size + length
    (spelling_of_all (int32_fields 2 m.response_size)) = search rules in
    if_none c.from_residual-in_err-size-2.result (simp len_append (omega arith))

pub returns-in_err-size-3-clause-too_long : goal.returns-in_err-size-3-clause-too_long
returns-in_err-size-3-clause-too_long c =
    let m = c.args.self.now in
    let response_type : c.in_ok-size.size ≡ 0 + length
    (spelling_of_all (int32_fields 1 m.response_type)) = search rules in
    let response_size : c.in_ok-size-2.size ≡ c.in_ok-size.size + length
    (spelling_of_all (int32_fields 2 m.response_size)) = search rules in
    if_none c.from_residual-in_err-size-3.result
    (simp len_append (omega (arith, c.in_err-size-3.ensures.too_long)))

pub returns-in_err-size-4-clause-too_long : goal.returns-in_err-size-4-clause-too_long
returns-in_err-size-4-clause-too_long c =
    let m = c.args.self.now in
    let response_type : c.in_ok-size.size ≡ 0 + length
    (spelling_of_all (int32_fields 1 m.response_type)) = search rules in
    let response_size : c.in_ok-size-2.size ≡ c.in_ok-size.size + length
    (spelling_of_all (int32_fields 2 m.response_size)) = search rules in
    if_none c.from_residual-in_err-size-4.result
    (simp len_append (omega (arith, c.in_err-size-4.ensures.too_long, c.in_ok-size-3.ensures.len)))

pub returns-in_err-size-5-clause-too_long : goal.returns-in_err-size-5-clause-too_long
returns-in_err-size-5-clause-too_long c =
    let m = c.args.self.now in
    let response_type : c.in_ok-size.size ≡ 0 + length
    (spelling_of_all (int32_fields 1 m.response_type)) = search rules in
    let response_size : c.in_ok-size-2.size ≡ c.in_ok-size.size + length
    (spelling_of_all (int32_fields 2 m.response_size)) = search rules in
    if_none c.from_residual-in_err-size-5.result (simp len_append (omega (
      arith,
      c.in_err-size-5.ensures.too_long,
      c.in_ok-size-3.ensures.len,
      c.in_ok-size-4.ensures.len,
    )))

pub returns-in_err-size-6-clause-too_long : goal.returns-in_err-size-6-clause-too_long
returns-in_err-size-6-clause-too_long c =
    let m = c.args.self.now in
    let response_type : c.in_ok-size.size ≡ 0 + length
    (spelling_of_all (int32_fields 1 m.response_type)) = search rules in
    let response_size : c.in_ok-size-2.size ≡ c.in_ok-size.size + length
    (spelling_of_all (int32_fields 2 m.response_size)) = search rules in
    if_none c.from_residual-in_err-size-6.result (simp len_append (omega (
      arith,
      c.in_err-size-6.ensures.too_long,
      c.in_ok-size-3.ensures.len,
      c.in_ok-size-4.ensures.len,
      c.in_ok-size-5.ensures.len,
    )))

pub returns-in_err-size-7-clause-too_long : goal.returns-in_err-size-7-clause-too_long
returns-in_err-size-7-clause-too_long c =
    let m = c.args.self.now in
    let response_type : c.in_ok-size.size ≡ 0 + length
    (spelling_of_all (int32_fields 1 m.response_type)) = search rules in
    let response_size : c.in_ok-size-2.size ≡ c.in_ok-size.size + length
    (spelling_of_all (int32_fields 2 m.response_size)) = search rules in
    if_none c.from_residual-in_err-size-7.result (simp len_append (omega (
      arith,
      c.in_err-size-7.ensures.too_long,
      c.in_ok-size-3.ensures.len,
      c.in_ok-size-4.ensures.len,
      c.in_ok-size-5.ensures.len,
      c.in_ok-size-6.ensures.len,
    )))

pub returns-in_err-size-8-clause-too_long : goal.returns-in_err-size-8-clause-too_long
returns-in_err-size-8-clause-too_long c =
    let m = c.args.self.now in
    let response_type : c.in_ok-size.size ≡ 0 + length
    (spelling_of_all (int32_fields 1 m.response_type)) = search rules in
    let response_size : c.in_ok-size-2.size ≡ c.in_ok-size.size + length
    (spelling_of_all (int32_fields 2 m.response_size)) = search rules in
    if_none c.from_residual-in_err-size-8.result (simp len_append (omega (
      arith,
      c.in_err-size-8.ensures.too_long,
      c.in_ok-size-3.ensures.len,
      c.in_ok-size-4.ensures.len,
      c.in_ok-size-5.ensures.len,
      c.in_ok-size-6.ensures.len,
      c.in_ok-size-7.ensures.len,
    )))
