use Rattle.std.proofs.Common.{◌∙◌, ap, sym}
use Rattle.readerloop.specs.Kept.{accounts_of, unsettled}
use Rattle.readerloop.proofs.AwaitedSteps.{
  awaits-settled,
  fewer-settled,
  none-any,
  none-over,
  over-at,
  over-within,
}
use Rattle.readerloop.proofs.CutSteps.{cut-out}
use Rattle.readerloop.proofs.KeptCalls.{found-call, kept-settled, last_in}
use Rattle.readerloop.proofs.calls.Calls.settle_next.Goals as goal

pub settle-account-requires : goal.settle-account-requires
settle-account-requires g c = record {
  over =
      over-at (unsettled c.args.self.now) c.in_ok-place.place c.swap_remove-call.result
      (sym c.in_ok-place.ensures) c.swap_remove-call.ensures.value;
}

pub returns-in_err-place-clause-none : goal.returns-in_err-place-clause-none
returns-in_err-place-clause-none g c =
    none-any c.from_residual.result _
    (none-over (unsettled c.args.self.now) (sym c.in_err-place.ensures))

pub returns-clause-settled : goal.returns-clause-settled
returns-clause-settled g c = λ sent told k.
    let calls = c.args.self.now in
    let within = over-within (unsettled calls) c.in_ok-place.place (sym c.in_ok-place.ensures) in
    c.settle-account.ensures.settled sent told (found-call told (unsettled calls)
    (accounts_of calls) calls.last c.in_ok-place.place c.swap_remove-call.result within
    c.swap_remove-call.ensures.value k)

pub returns-clause-stays : goal.returns-clause-stays
returns-clause-stays g c = λ sent told k.
    let calls = c.args.self.now in
    let within = over-within (unsettled calls) c.in_ok-place.place (sym c.in_ok-place.ensures) in
    kept-settled told calls c.set_account.new.self c.in_ok-place.place c.swap_remove-call.result
    c.settle-account.result within c.swap_remove-call.ensures.value
    (ap (λ s. unsettled s) c.set_account.ensures.rest ∙ c.swap_remove-call.ensures.items)
    c.set_account.ensures.accounts (ap (λ s. last_in s) c.set_account.ensures.rest)
    c.settle-account.ensures.id
    (c.settle-account.ensures.settled sent told) k

pub returns-clause-awaits : goal.returns-clause-awaits
returns-clause-awaits g c =
    let calls = c.args.self.now in
    awaits-settled (unsettled calls) (unsettled c.set_account.new.self) c.in_ok-place.place
    c.swap_remove-call.result
    (over-within (unsettled calls) c.in_ok-place.place (sym c.in_ok-place.ensures))
    c.swap_remove-call.ensures.value
    (over-at (unsettled calls) c.in_ok-place.place c.swap_remove-call.result
    (sym c.in_ok-place.ensures) c.swap_remove-call.ensures.value)
    (ap (λ s. unsettled s) c.set_account.ensures.rest ∙ c.swap_remove-call.ensures.items)

pub returns-clause-fewer : goal.returns-clause-fewer
returns-clause-fewer g c =
    let calls = c.args.self.now in
    fewer-settled (unsettled calls) (unsettled c.set_account.new.self) c.in_ok-place.place
    c.swap_remove-call.result
    (over-within (unsettled calls) c.in_ok-place.place (sym c.in_ok-place.ensures))
    c.swap_remove-call.ensures.value
    (ap (λ s. unsettled s) c.set_account.ensures.rest ∙ c.swap_remove-call.ensures.items)

pub returns-clause-cut : goal.returns-clause-cut
returns-clause-cut g c = λ cut.
    let calls = c.args.self.now in
    cut-out (unsettled calls) (unsettled c.set_account.new.self) c.in_ok-place.place
    c.swap_remove-call.result
    (over-within (unsettled calls) c.in_ok-place.place (sym c.in_ok-place.ensures))
    c.swap_remove-call.ensures.value
    (ap (λ s. unsettled s) c.set_account.ensures.rest ∙ c.swap_remove-call.ensures.items) cut
