use Rattle.std.proofs.Common.{sym, subst, ◌∙◌}
use Rattle.std.proofs.lemmas.Slice.Eq.{bytes_eq-Decides}
use Rattle.hpack_codec.specs.Table.{Table}
use Rattle.hpack_codec.specs.Reading.{IsFound}
use Rattle.hpack_codec.specs.declared.table_match.TableMatch.TheVariants.{Whole, Name}
use Rattle.hpack_codec.proofs.Blocks.{entry_name_is, entry_is}
use Rattle.hpack_codec.proofs.search_table.SearchTable.at.Goals as goal

pub returns-then-eq-2 : goal.returns-then-eq-2
returns-then-eq-2 c =
    subst (λ (table : Table).
    IsFound table (Whole c.args.index) c.args.name.now c.args.value.now) c.self.view_is
    (entry_is c.self.inside.table c.args.index _ _ _ _ c.in-Some.ensures
    ((bytes_eq-Decides _ _).0 (sym c.eq.ensures ∙ c.if-eq.true))
    ((bytes_eq-Decides _ _).0 (sym c.eq-then-eq.ensures ∙ c.if-eq-2.true)))

pub returns-then-eq : goal.returns-then-eq
returns-then-eq c =
    subst (λ (table : Table).
    IsFound table (Name c.args.index) c.args.name.now c.args.value.now) c.self.view_is
    (entry_name_is c.self.inside.table c.args.index _ _ _ c.in-Some.ensures
    ((bytes_eq-Decides _ _).0 (sym c.eq.ensures ∙ c.if-eq.true)))
