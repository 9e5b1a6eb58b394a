use Rattle.std.proofs.Common.{◌≡◌, ◌++◌, length}
use Rattle.std.specs.Vec.Iter.{into_iter_items, into_iter_len}
use Rattle.trace.specs.Lines.{items_of}
use Rattle.trace.proofs.tracing.lines_of.Given as goal

-- the items so far have their lines, and they and those to come are all
abbrev pub invariant-items : goal.invariant-items
invariant-items l = record {
  told : items_of l.lines.items ≡ l.yielded;
  parts : l.yielded ++ into_iter_items l.item-iterator ≡ l.fn.items.items;
  length : into_iter_len l.item-iterator ≡ length (into_iter_items l.item-iterator);
}
