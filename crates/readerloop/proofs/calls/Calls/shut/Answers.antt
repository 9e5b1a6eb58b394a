use Rattle.std.proofs.Common.{◌≡◌, Some, subst, sym}
use Rattle.readerloop.specs.Kept.{accounts_of, unsettled}
use Rattle.readerloop.specs.Steps.{ShutAs, closing_at}
use Rattle.readerloop.proofs.AwaitedSteps.{awaits-same}
use Rattle.readerloop.proofs.CutSteps.{closes-found, closes-unfound}
use Rattle.readerloop.proofs.KeptSteps.{found-id, kept-found, kept-unfound, rises-not}
use Rattle.readerloop.proofs.calls.Calls.shut.Goals as goal

pub returns-in_err-place-clause-heard : goal.returns-in_err-place-clause-heard
returns-in_err-place-clause-heard g c = λ sent step concerns closes told k.
    let calls = c.args.self.now in
    kept-unfound told step (unsettled calls) (accounts_of calls) calls.last c.args.id
    (sym c.in_err-place.ensures) concerns k

pub returns-clause-heard : goal.returns-clause-heard
returns-clause-heard g c = λ sent step concerns closes told k.
    let calls = c.args.self.now in
    let call = c.in_ok-call.call.now in
    let of =
    found-id (unsettled calls) c.in_ok-place.place c.args.id call (sym c.in_ok-place.ensures)
    c.in_ok-call.ensures.value in
    kept-found told step (unsettled calls) (accounts_of calls) calls.last c.args.id
    c.in_ok-place.place call c.shut.new.self
    c.in_ok-call.ensures.item.3.0 c.in_ok-call.ensures.value of c.shut.ensures.id
    c.shut.ensures.place concerns
    (λ is.
    c.shut.ensures.heard sent told step (rises-not told step concerns.admits)
    (subst (λ id. closing_at id step ≡ Some (ShutAs c.args.kind)) (sym of) closes) is) k

pub returns-clause-awaits : goal.returns-clause-awaits
returns-clause-awaits g c =
    awaits-same (unsettled c.args.self.now) c.in_ok-place.place c.in_ok-call.call.now
    c.shut.new.self c.in_ok-call.ensures.item.3.0 c.in_ok-call.ensures.value c.shut.ensures.ends

pub returns-in_err-place-clause-closes : goal.returns-in_err-place-clause-closes
returns-in_err-place-clause-closes g c = λ apart place.
    closes-unfound c.args.id (unsettled c.args.self.now) (sym c.in_err-place.ensures) place

pub returns-clause-closes : goal.returns-clause-closes
returns-clause-closes g c = λ apart place.
    let calls = unsettled c.args.self.now in
    let call = c.in_ok-call.call.now in
    closes-found c.args.id c.in_ok-place.place calls call c.shut.new.self
    c.in_ok-call.ensures.item.3.0 c.in_ok-call.ensures.value
    (found-id calls c.in_ok-place.place c.args.id call (sym c.in_ok-place.ensures)
    c.in_ok-call.ensures.value) c.shut.ensures.closed apart place
