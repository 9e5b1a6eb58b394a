use Rattle.hpack_codec.proofs.Literals.{literal_taken}
use Rattle.hpack_codec.proofs.decoder.literal.Goals as goal

pub returns-clause-ok : goal.returns-clause-ok
returns-clause-ok c =
    literal_taken c.args.table.now c.args.prefix_bits c.in_ok-index.index c.args.bytes.now
    c.in_ok-index.rest.now c.in_ok-name.rest.now c.in_ok-value.rest.now
    c.in_ok-name.name c.in_ok-value.value c.in_ok-index.ensures.ok c.in_ok-name.ensures.ok
    c.in_ok-value.ensures.ok
