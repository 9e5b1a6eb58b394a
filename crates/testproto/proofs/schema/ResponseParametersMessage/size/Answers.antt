use Rattle.std.proofs.Common.{◌≡◌, ◌+◌, ◌++◌, length, rules}
use Rattle.pbwire.specs.Spelling.{spelling_of_all}
use Rattle.testproto.specs.Canonical.{int32_fields, message_fields, bool_value_fields}
use Rattle.testproto.proofs.Writing.{chain_len, from_zero}
use Rattle.testproto.proofs.schema.ResponseParametersMessage.size.Goals as goal

pub returns-clause-len : goal.returns-clause-len
returns-clause-len c =
    let m = c.args.self.now in
    let size : c.in_ok-size.size ≡ 0 + length
    (spelling_of_all (int32_fields 1 m.size)) = search rules in
    let interval_us : c.in_ok-size-2.size ≡ c.in_ok-size.size + length
    (spelling_of_all (int32_fields 2 m.interval_us)) = search rules in
    from_zero c.in_ok-size-3.size _ (chain_len 0 c.in_ok-size-2.size c.in_ok-size-3.size
    (int32_fields 1 m.size ++ int32_fields 2 m.interval_us)
    (message_fields bool_value_fields 3 m.compressed)
    (chain_len 0 c.in_ok-size.size c.in_ok-size-2.size (int32_fields 1 m.size)
    (int32_fields 2 m.interval_us) size interval_us) c.in_ok-size-3.ensures.len)
