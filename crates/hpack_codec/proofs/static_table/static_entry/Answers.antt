use Rattle.hpack_codec.specs.StaticTable.{static_table}
use Rattle.hpack_codec.proofs.static_table.static_entry.Goals as goal

-- the code's table and the definition's are one by computation
pub returns : goal.returns
unfolding static_table
returns c = c.pair_at.ensures
