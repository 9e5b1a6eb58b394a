use Rattle.std.proofs.Common.{◌+◌, ◌++◌, List, ℕ, take, drop, ◌∙◌, ap, subst, arith}
use Rattle.std.specs.List.{concat}
use Rattle.std.proofs.lemmas.Result.{err_from_is_err_and}
use Rattle.lpm.specs.Tails.{Leaves, IsFaultySomewhere}
use Rattle.lpm.proofs.Tails.{fault_longer, pieces_more, pieces_all}
use Rattle.lpm.proofs.tail.Tail.read_pieces.Goals as goal

pub returns-in_err-read-clause-fault : goal.returns-in_err-read-clause-fault
returns-in_err-read-clause-fault c = λ bytes leaves.
    let p = err_from_is_err_and c.from_residual.result c.from_residual.ensures.1 in
    let pieces = c.args.pieces.now.items in
    let i = c.loop-i.i in
    let front = bytes ++ concat (take i pieces) in
    let piece = c.as_slice.result.now in
    let fault = c.in_err-read.field-0.0 in
    let here = c.in_err-read.ensures.fault front (c.loop-i.invariant bytes leaves) in
    let longer = fault_longer (front ++ piece) (concat (drop (i + 1) pieces)) fault here in
    let all =
    ap (λ (b : List ℕ). b ++ concat (drop (i + 1) pieces))
    (ap (λ (b : List ℕ). front ++ b) c.as_slice.ensures
    ∙ pieces_more bytes pieces i c.index.result.now (omega arith) c.index.ensures)
    ∙ pieces_all bytes pieces (i + 1) in
    rw (p.1, p.2) (subst (λ (b : List ℕ). IsFaultySomewhere b fault) all longer)

pub loop-i-preserved : goal.loop-i-preserved
loop-i-preserved c = λ bytes leaves.
    let pieces = c.args.pieces.now.items in
    let i = c.loop-i.i in
    let front = bytes ++ concat (take i pieces) in
    let on = c.in_ok-read.ensures.ok front (c.loop-i.invariant bytes leaves) in
    subst (λ (b : List ℕ). Leaves b c.read.new.self)
    (ap (λ (b : List ℕ). front ++ b) c.as_slice.ensures
    ∙ pieces_more bytes pieces i c.index.result.now (omega arith) c.index.ensures) on
