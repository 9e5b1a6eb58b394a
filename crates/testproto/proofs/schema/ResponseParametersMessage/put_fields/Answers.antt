use Rattle.std.proofs.Common.{◌≡◌, ◌++◌, rules}
use Rattle.pbwire.specs.Spelling.{spelling_of_all}
use Rattle.testproto.specs.Canonical.{int32_fields, message_fields, bool_value_fields}
use Rattle.testproto.proofs.Writing.{chain}
use Rattle.testproto.proofs.schema.ResponseParametersMessage.put_fields.Goals as goal

pub returns-clause-ok : goal.returns-clause-ok
returns-clause-ok c =
    let m = c.args.self.now in
    let size : c.put_int32.new.out.items ≡ c.args.out.now.items ++ spelling_of_all
    (int32_fields 1 m.size) = search rules in
    let interval_us : c.put_int32-2.new.out.items ≡ c.put_int32.new.out.items ++ spelling_of_all
    (int32_fields 2 m.interval_us) = search rules in
    chain c.args.out.now.items _ _ (int32_fields 1 m.size ++ int32_fields 2 m.interval_us)
    (message_fields bool_value_fields 3 m.compressed)
    (chain c.args.out.now.items _ _ (int32_fields 1 m.size) (int32_fields 2 m.interval_us) size
    interval_us) c.in_ok-put_message.ensures.ok
