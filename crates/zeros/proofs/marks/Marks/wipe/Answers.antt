use Rattle.std.proofs.Common.{ℕ, List, length, sym, subst}
use Rattle.std.proofs.lemmas.List.Elements.{All-tail}
use Rattle.std.specs.List.{All}
use Rattle.zeros.specs.Marks.{EndsBy, AreZerosOutside}
use Rattle.zeros.specs.declared.marks.Span.{Span}
use Rattle.zeros.proofs.marks.Marks.wipe.Goals as goal

pub wipe_spans-requires-clause-ends : goal.wipe_spans-requires-clause-ends
wipe_spans-requires-clause-ends c =
    let s = c.args.self.now in
    let bytes = c.wipe_span.new.bytes in
    subst (λ (l : List Span). All (EndsBy (length bytes)) l) (sym c.as_slice.ensures.value)
    (subst (λ (n : ℕ). All (EndsBy n) s.earlier.items) (sym c.wipe_span.ensures.len)
    (All-tail (EndsBy (length c.args.bytes.now)) s.last s.earlier.items c.requires.ends))

pub wipe_spans-requires-clause-zeros : goal.wipe_spans-requires-clause-zeros
wipe_spans-requires-clause-zeros c =
    let s = c.args.self.now in
    subst (λ (l : List Span). AreZerosOutside l c.wipe_span.new.bytes)
    (sym c.as_slice.ensures.value)
    (c.wipe_span.ensures.wiped s.earlier.items c.requires.zeros)
