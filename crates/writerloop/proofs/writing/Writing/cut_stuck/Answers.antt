use Rattle.std.proofs.Common.{◌∙◌, ap, arith, refl}
use Rattle.writerloop.proofs.EndedSteps.{CutsBelow, cuts-all, cuts-more, cuts-none, cuts-same}
use Rattle.writerloop.proofs.writing.Writing.cut_stuck.Goals as goal
use Rattle.writerloop.proofs.writing.Writing.cut_stuck.Goals.{in-Some, in_default}

pub loop-place-init : goal.loop-place-init
loop-place-init g c = (cuts-none c.args.self.now c.args.book.now.book, refl)

pub loop-place-preserved : goal.loop-place-preserved
loop-place-preserved g c = elim c.match-stuck.branch [
  | in-Some w ↦ (
    cuts-more c.args.self.now c.loop-place.place w.in-Some.id c.args.book.now.book
        c.loop-place.book.book c.match-stuck.book.book c.loop-place.invariant.0
        (rw w.in-Some.is at c.stuck.ensures.whose) (rw w.in-Some.is at c.stuck.ensures.ended)
        (rw w.in-Some.is at c.stuck.ensures.held)
        (ap (λ b. b.book) w.book-is ∙ w.cut_live.ensures.book),
    ap (λ b. b.stopped) w.book-is ∙ (w.cut_live.ensures.stopped ∙ c.loop-place.invariant.1),
  )
  | in_default w ↦ rw w.book-is (
    cuts-same c.args.self.now c.loop-place.place c.args.book.now.book c.loop-place.book.book
        c.loop-place.invariant.0 (rw w.in_default.is at c.stuck.ensures.none),
    c.loop-place.invariant.1,
  )
]

pub returns-clause-book : goal.returns-clause-book
returns-clause-book g c =
    cuts-all c.args.self.now c.loop-place.place c.args.book.now.book c.loop-place.book.book
    (omega (arith, c.loop-place-test.false, c.len-place-end.ensures)) c.loop-place.invariant.0
