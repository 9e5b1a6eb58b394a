use Rattle.std.proofs.Common.{◌≡◌, ◌∙◌, ap, subst, sym, refl, List, [], None, rules}
use Rattle.lane.specs.RingLane.{got, put_shut}
use Rattle.account.specs.declared.call.OutItem.{OutItem}
use Rattle.callbox.specs.InSides.{TakesMessages}
use Rattle.callbox.specs.declared.piece.InPiece.{InPiece}
use Rattle.handlers.specs.Listed.{listed}
use Rattle.callparts.specs.Workers.{IsGivenAs}
use Rattle.callworker.proofs.Turns.{call_answers, none_answers, overdue_timed, run_all}
use Rattle.callworker.proofs.worker.Worker.serve.Goals as goal

pub returns-clause-answers : goal.returns-clause-answers
returns-clause-answers g c =
    let work = c.args.work in
    let fresh = c.requires.fresh in
    let untouched : TakesMessages (got c.new-run.result.taker.rx)
    c.new-run.result.taker.progress [] =
    rw c.new-run.ensures.taker
    (subst (λ (items : List InPiece). TakesMessages items work.taker.progress [])
    (sym fresh.0) fresh.1) in
    let untold : c.new-run.result.taker.progress.told ≡ None = rw c.new-run.ensures.taker fresh.2 in
    call_answers _ _ (listed c.args.methods.now) _ work.request c.run-not_live.new.run _ _ _ _ refl
    (λ none. absurd (search rules))
    (c.run-not_live.ensures.same.3 ∙ c.new-run.ensures.head) (ap got c.end.ensures.rx) c.end.ensures.progress
    (overdue_timed c.new-run.result c.run-not_live.new.run work.request.head _ c.new-run.ensures.early
    c.new-run.ensures.deadline c.run-not_live.ensures.same)
    (run_all _ _ (listed c.args.methods.now) work.request.index c.new-run.result c.run-not_live.new.run _ _
    c.new-run.ensures.index_is untouched untold fresh.2 fresh.3 c.new-run.ensures.hand
    c.run-not_live.ensures.over c.new-run.ensures.run c.run-not_live.ensures.goes_on)
    c.end.ensures.given

pub returns-then-is_none-clause-answers : goal.returns-then-is_none-clause-answers
returns-then-is_none-clause-answers g c =
    let work = c.args.work in
    let fresh = c.requires.fresh in
    let took : TakesMessages (got work.taker.rx) work.taker.progress [] =
    subst (λ (items : List InPiece). TakesMessages items work.taker.progress [])
    (sym fresh.0) fresh.1 in
    let nothing : IsGivenAs [] (put_shut c.pass_over.result.given.shut) =
    subst (λ (items : List OutItem). IsGivenAs items (put_shut c.pass_over.result.given.shut))
    fresh.3 c.pass_over.ensures.given in
    rw (c.pass_over.ensures.taker, c.pass_over.ensures.status) (none_answers _
    (listed c.args.methods.now) work.request _ work.taker.progress _ (search rules) took nothing)
