use Rattle.std.proofs.Common.{◌++◌, List, ℕ, take, drop, subst, arith}
use Rattle.std.proofs.lemmas.List.{take_rest}
use Rattle.std.proofs.lemmas.Result.{err_from_is_err_and}
use Rattle.lpm.specs.Tails.{Leaves, IsFaultySomewhere}
use Rattle.lpm.proofs.Tails.{fault_longer, read_on, read_all}
use Rattle.lpm.proofs.tail.Tail.read.Goals as goal

pub returns-in_err-at-clause-fault : goal.returns-in_err-at-clause-fault
returns-in_err-at-clause-fault c = λ bytes leaves.
    let p = err_from_is_err_and c.from_residual.result c.from_residual.ensures.1 in
    let piece = c.args.piece.now in
    let front = bytes ++ take c.loop-at.at piece in
    let fault = c.in_err-at.field-0.0 in
    let longer =
    fault_longer front (drop c.loop-at.at piece) fault
    (c.in_err-at.ensures.fault front (c.loop-at.invariant.1 bytes leaves)) in
    rw (p.1, p.2)
    (subst (λ (b : List ℕ). IsFaultySomewhere b fault) (read_all bytes piece c.loop-at.at) longer)

pub loop-at-preserved : goal.loop-at-preserved
loop-at-preserved c = (
  omega (arith, c.in_ok-at.ensures.some),
  λ bytes leaves.
      let piece = c.args.piece.now in
      let on =
      rw take_rest at (c.in_ok-at.ensures.ok (bytes ++ take c.loop-at.at piece)
      (c.loop-at.invariant.1 bytes leaves)) in
      subst (λ (b : List ℕ). Leaves b c.take.new.self)
      (read_on bytes piece c.loop-at.at c.in_ok-at.field-0) on,
)
