use Rattle.std.proofs.Common.{◌≡◌, length}
use Rattle.hpack_codec.specs.Table.{fitting, sizes_of}
use Rattle.hpack_codec.proofs.table.evict.Given as goal

abbrev pub invariant-loop-size : goal.invariant-loop-size
invariant-loop-size l = record {
  kept : fitting l.room l.recent.items ≡ fitting l.room l.fn.recent.items;
  size : l.size ≡ sizes_of l.recent.items;
}

abbrev pub decreases-loop-size : goal.decreases-loop-size
decreases-loop-size l = length l.recent.items
