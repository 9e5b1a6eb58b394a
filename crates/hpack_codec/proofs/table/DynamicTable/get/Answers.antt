use Rattle.std.proofs.Common.{◌-◌, refl, sym, ◌∙◌, ap, slice_get}
use Rattle.std.proofs.lemmas.Bool.{ltb-false}
use Rattle.std.proofs.lemmas.Option.{slice_get_read, slice_get_past}
use Rattle.hpack_codec.proofs.Tables.{
  entry_at-zero,
  entry_at-static,
  entry_at-recent,
  entries_of,
  some_entry,
}
use Rattle.hpack_codec.proofs.table.DynamicTable.get.Goals as goal

pub returns-then-index-eq0 : goal.returns-then-index-eq0
returns-then-index-eq0 c = entry_at-zero c.args.self.now c.args.index c.if-index-eq0.true

pub returns-then-index-le-LEN : goal.returns-then-index-le-LEN
returns-then-index-le-LEN c =
    entry_at-static c.args.self.now c.args.index _ c.if-index-eq0.false c.if-index-le-LEN.true
    c.static_entry.ensures

pub returns-in-Some : goal.returns-in-Some
returns-in-Some c =
    entry_at-recent c.args.self.now c.args.index c.if-index-le-LEN.false
    ∙ ap (λ table. slice_get (entries_of table) (c.args.index - 1 - 61)) (sym c.self.view_is)
    ∙ slice_get_read c.self.inside.recent.items c.self.inside.recent.len (c.args.index - 1 - 61)
    c.in-Some.field.now
    c.self.inside.recent.ok.0 (c.in-Some.ensures.variant.0 refl) c.in-Some.ensures.lookup
    ∙ some_entry c.in-Some.field.now _ _ c.as_slice.ensures c.as_slice-in-Some.ensures

pub returns-in-None : goal.returns-in-None
returns-in-None c =
    entry_at-recent c.args.self.now c.args.index c.if-index-le-LEN.false
    ∙ ap (λ table. slice_get (entries_of table) (c.args.index - 1 - 61)) (sym c.self.view_is)
    ∙ slice_get_past c.self.inside.recent.items (c.args.index - 1 - 61)
    (ltb-false _ _ (sym c.in-None.ensures.item.0))
