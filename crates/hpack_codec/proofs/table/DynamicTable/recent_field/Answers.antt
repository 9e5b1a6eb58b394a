use Rattle.std.proofs.Common.{refl, sym, ◌∙◌, ap, slice_get, Some}
use Rattle.std.proofs.lemmas.Bool.{ltb-false}
use Rattle.std.proofs.lemmas.Option.{slice_get_read, slice_get_past}
use Rattle.hpack_codec.proofs.Tables.{entries_of}
use Rattle.hpack_codec.proofs.table.DynamicTable.recent_field.Goals as goal

pub returns-in_ok-copy_of-in-Some : goal.returns-in_ok-copy_of-in-Some
returns-in_ok-copy_of-in-Some c =
    ap (λ table. slice_get (entries_of table) c.args.place) (sym c.self.view_is)
    ∙ slice_get_read c.self.inside.recent.items c.self.inside.recent.len c.args.place
    c.in-Some.field.now
    c.self.inside.recent.ok.0 (c.in-Some.ensures.variant.0 refl) c.in-Some.ensures.lookup
    ∙ ap Some (sym c.in_ok-copy_of-in-Some.ensures)

pub returns-in-None : goal.returns-in-None
returns-in-None c =
    ap (λ table. slice_get (entries_of table) c.args.place) (sym c.self.view_is)
    ∙ slice_get_past c.self.inside.recent.items c.args.place
    (ltb-false _ _ (sym c.in-None.ensures.item.0))
