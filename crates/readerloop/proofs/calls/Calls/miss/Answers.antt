use Rattle.std.proofs.Common.{◌≡◌, Some, subst, sym}
use Rattle.readerloop.specs.Kept.{accounts_of, unsettled}
use Rattle.readerloop.specs.Steps.{Misses, closing_at}
use Rattle.readerloop.proofs.AwaitedSteps.{awaits-same}
use Rattle.readerloop.proofs.KeptSteps.{found-id, kept-found, kept-unfound, rises-not}
use Rattle.readerloop.proofs.calls.Calls.miss.Goals as goal

pub returns-clause-heard : goal.returns-clause-heard
returns-clause-heard g c = λ sent step concerns closes told k.
    let calls = c.args.self.now in
    let call = c.in-Some-get_mut.call.now in
    let of =
    found-id (unsettled calls) c.in-Some.place c.args.id call (sym c.in-Some.ensures)
    c.in-Some-get_mut.ensures.value in
    kept-found told step (unsettled calls) (accounts_of calls) calls.last c.args.id c.in-Some.place
    call c.miss.new.self
    c.in-Some-get_mut.ensures.item.3.0 c.in-Some-get_mut.ensures.value of c.miss.ensures.id
    c.miss.ensures.place concerns
    (λ is.
    c.miss.ensures.heard sent told step (rises-not told step concerns.admits)
    (subst (λ id. closing_at id step ≡ Some (Misses)) (sym of) closes) is) k

pub returns-in_default-clause-heard : goal.returns-in_default-clause-heard
returns-in_default-clause-heard g c = λ sent step concerns closes told k.
    let calls = c.args.self.now in
    kept-unfound told step (unsettled calls) (accounts_of calls) calls.last c.args.id
    (sym c.in_default.ensures) concerns k

pub returns-clause-awaits : goal.returns-clause-awaits
returns-clause-awaits g c =
    awaits-same (unsettled c.args.self.now) c.in-Some.place c.in-Some-get_mut.call.now
    c.miss.new.self c.in-Some-get_mut.ensures.item.3.0 c.in-Some-get_mut.ensures.value
    c.miss.ensures.ends
