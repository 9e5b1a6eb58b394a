use Rattle.hpack_codec.proofs.StaticEntries.{get-map}
use Rattle.hpack_codec.proofs.static_table.pair_at.Goals as goal

pub returns : goal.returns
returns c = get-map c.args.pairs.now c.args.place _ c.requires
