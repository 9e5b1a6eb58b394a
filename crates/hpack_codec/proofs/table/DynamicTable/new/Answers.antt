use Rattle.std.proofs.Common.{rules}
use Rattle.hpack_codec.specs.Table.{sizes_of}
use Rattle.hpack_codec.proofs.table.DynamicTable.new.Goals as goal

pub invariant_of-result : goal.invariant_of-result
unfolding sizes_of
invariant_of-result c = search rules
