use Rattle.std.proofs.lemmas.Result.{on_ok_weaker}
use Rattle.hpack_codec.proofs.Blocks.{wrote_plain, wrote_entry, inserted_private, not_private}
use Rattle.hpack_codec.proofs.encoder.push_literal.Goals as goal

pub returns-then-size-limit-clause-text : goal.returns-then-size-limit-clause-text
returns-then-size-limit-clause-text c =
    on_ok_weaker c.push_pair.result (wrote_plain c.args.table.now _ _ c.args.field.now)
    (c.push_pair.ensures c.args.table.now c.requires.index)

pub returns-clause-text : goal.returns-clause-text
returns-clause-text c =
    on_ok_weaker c.insert.result
    (λ is.
    wrote_entry c.args.table.now c.insert.new.self _ _ c.args.field.now is
    (c.in_ok-push_pair.ensures c.args.table.now c.requires.index))
    c.insert.ensures

pub returns-clause-entry : goal.returns-clause-entry
returns-clause-entry c =
    on_ok_weaker c.insert.result
    (λ is. inserted_private c.args.table.now c.insert.new.self c.args.field.now is
    (not_private c.args.field.now c.as_slice.result.now c.is_private.result c.as_slice.ensures
    c.is_private.ensures c.if-is_private.false))
    c.insert.ensures
