use Rattle.zeros.specs.declared.marks.Span.{Span}
use Rattle.zeros.proofs.Wiped.{longer_ends, longer_kept, added_ends, added_kept}
use Rattle.std.proofs.Common.{refl}
use Rattle.zeros.proofs.marks.Marks.mark.Goals as goal

pub returns-then-from-self-clause-ends : goal.returns-then-from-self-clause-ends
returns-then-from-self-clause-ends c =
    let s = c.args.self.now in
    let span : Span = record { from = s.last.from; to = c.args.to } in
    longer_ends s.last span s.earlier.items c.args.from c.args.to c.requires.order refl
    refl c.requires.before

pub returns-then-from-self-clause-kept : goal.returns-then-from-self-clause-kept
returns-then-from-self-clause-kept c =
    let s = c.args.self.now in
    let span : Span = record { from = s.last.from; to = c.args.to } in
    λ i.
    longer_kept s.last span s.earlier.items c.args.from c.args.to i c.requires.order refl
    refl c.requires.before

pub returns-clause-ends : goal.returns-clause-ends
returns-clause-ends c =
    let s = c.args.self.now in
    let span : Span = record { from = c.args.from; to = c.args.to } in
    added_ends s.last span s.earlier.items c.push_reserved.new.self.items c.args.from c.args.to
    c.requires.order refl refl c.push_reserved.ensures.items c.requires.before

pub returns-clause-kept : goal.returns-clause-kept
returns-clause-kept c =
    let s = c.args.self.now in
    let span : Span = record { from = c.args.from; to = c.args.to } in
    λ i.
    added_kept s.last span s.earlier.items c.push_reserved.new.self.items i
    c.push_reserved.ensures.items
