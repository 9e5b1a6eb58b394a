use Rattle.std.proofs.Common.{arith, sym, ◌∙◌}
use Rattle.std.proofs.lemmas.Slice.Eq.{bytes_eq-Decides}
use Rattle.hpack_codec.proofs.StaticEntries.{name_found}
use Rattle.hpack_codec.proofs.static_table.find.Goals as goal
use Rattle.hpack_codec.proofs.static_table.find.Goals.{
  then-eq+else-eq-2+in-Nothing,
  then-eq+else-eq-2+in_default,
  else-eq,
}

pub loop-place-preserved : goal.loop-place-preserved
loop-place-preserved c =
    elim c.if-eq.branch [
      | then-eq+else-eq-2+in-Nothing w ↦
          rw w.found-is (name_found c.loop-place.place _ _ _ c.args.value.now (omega arith)
          c.static_entry.ensures
          ((bytes_eq-Decides _ _).0 (sym c.eq.ensures ∙ w.if-eq.true)))
      | then-eq+else-eq-2+in_default w ↦ rw w.found-is c.loop-place.invariant
      | else-eq w ↦ rw w.found-is c.loop-place.invariant
    ]
