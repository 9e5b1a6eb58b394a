use Rattle.std.proofs.Common.{[], refl, arith}
use Rattle.std.proofs.lemmas.Result.{err_from_is_err_and}
use Rattle.lpm.proofs.Extents.{extent_of-nil}
use Rattle.lpm.proofs.Tails.{leaves_whole, ended_leaves, leaves_fault}
use Rattle.lpm.proofs.tail.Tail.take.Goals as goal

pub returns-in_err-total-clause-fault : goal.returns-in_err-total-clause-fault
returns-in_err-total-clause-fault c = λ bytes leaves.
    let p = err_from_is_err_and c.from_residual.result c.from_residual.ensures.1 in
    rw (p.1, p.2) (leaves_fault bytes c.known.result.now c.args.self.now c.in_err-total.field-0.0
    leaves c.known.ensures c.in_err-total.ensures.means)

pub fill-requires-clause-extent : goal.fill-requires-clause-extent
fill-requires-clause-extent c = rw c.new.ensures.nothing (extent_of-nil [] refl)

pub returns-then-total-self-clause-ok : goal.returns-then-total-self-clause-ok
returns-then-total-self-clause-ok c = λ bytes leaves.
    c.fill.ensures.read bytes (ended_leaves bytes c.new.result c.new.ensures.nothing
    (leaves_whole bytes c.known.result.now c.args.self.now c.in_ok-total.total leaves
    c.known.ensures c.in_ok-total.ensures.bytes c.in_ok-total.ensures.extent (omega arith)))
