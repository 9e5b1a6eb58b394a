use Rattle.std.proofs.Common.{arith, sym, ◌∙◌, ◌∷◌, ap}
use Rattle.lists.specs.declared.field.Field.{Field}
use Rattle.hpack_codec.specs.Table.{sizes_of, size_of, insert_entry}
use Rattle.hpack_codec.proofs.Tables.{sizes_of-nil, sizes_of-cons, insert_large, insert_small}
use Rattle.hpack_codec.proofs.table.DynamicTable.insert.Goals as goal

pub invariant_of-self : goal.invariant_of-self
invariant_of-self c = (sym (ap sizes_of c.clear.ensures.items ∙ sizes_of-nil), omega arith)

pub returns-then-size-limit : goal.returns-then-size-limit
returns-then-size-limit c =
    insert_large c.self.inside.recent.items c.clear.new.self.items c.self.inside.max_size
    c.args.field.now c.clear.ensures.items (omega (arith, c.requires, c.if-size-limit.true))
    ∙ ap (λ table. insert_entry table c.args.field.now) c.self.view_is

pub invariant_of-self-2 : goal.invariant_of-self-2
invariant_of-self-2 c = (
  sym (ap sizes_of c.in_ok-push_front.ensures.items ∙ sizes_of-cons _ _
      ∙ omega
      (arith, c.evict-self-inside.ensures.size, c.requires, ap size_of c.in_ok-entry.ensures)),
  omega (arith, c.evict-self-inside.ensures.room, c.if-size-limit.false),
)

pub returns : goal.returns
returns c =
    insert_small c.self.inside.recent.items c.evict-self-inside.new.recent.items
    c.push_front.new.self.items c.self.inside.max_size c.args.size c.args.field.now
    c.requires c.if-size-limit.false c.evict-self-inside.ensures.kept
    (c.in_ok-push_front.ensures.items
    ∙ ap (λ (entry : Field). entry ∷ c.evict-self-inside.new.recent.items) c.in_ok-entry.ensures)
    ∙ ap (λ table. insert_entry table c.args.field.now) c.self.view_is
