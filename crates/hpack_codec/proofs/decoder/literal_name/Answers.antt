use Rattle.std.proofs.Common.{◌∙◌}
use Rattle.hpack_codec.proofs.Literals.{name_entry}
use Rattle.hpack_codec.proofs.decoder.literal_name.Goals as goal

pub returns-clause-ok : goal.returns-clause-ok
returns-clause-ok c =
    name_entry c.args.table.now c.args.index c.args.bytes.now _ c.if-index-eq-NEW_NAME.false
    (c.in_ok-name.ensures ∙ c.in-Some.is)
