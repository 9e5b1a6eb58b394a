use Rattle.std.proofs.Common.{List, ℕ, subst}
use Rattle.lpm.specs.Splits.{Answers}
use Rattle.lpm.specs.Fronts.{waiting}
use Rattle.lpm.proofs.Extents.{continues}
use Rattle.lpm.proofs.splitter.Splitter.next.Goals as goal

pub returns-in-Some-clause-however_cut : goal.returns-in-Some-clause-however_cut
returns-in-Some-clause-however_cut c = λ bytes messages each whole.
    let new = waiting c.turn.new.joined.bytes.items c.turn.new.piece c.turn.new.later.items in
    let answer =
    subst (λ (old : List ℕ). Answers old c.in-Some.split new) c.loop-split.invariant
    c.in-Some.ensures.answer in
    continues bytes messages c.args.self.now c.in-Some.split new each whole answer
