use Rattle.std.proofs.Common.{◌∷◌, length, refl, subst, sym}
use Rattle.std.proofs.lemmas.Option.{slice_get_read}
use Rattle.std.proofs.lemmas.Result.{err_from_is_err_and}
use Rattle.connbook.specs.declared.answers.Receipt.TheVariants.{Feed}
use Rattle.session.specs.declared.event.InEvent.TheVariants as events
use Rattle.readerloop.specs.Calls.{IsCall, carried_in}
use Rattle.readerloop.specs.Kept.{accounts_of, unsettled}
use Rattle.readerloop.specs.Steps.{Received, Told}
use Rattle.readerloop.proofs.AwaitedSteps.{awaits-same}
use Rattle.readerloop.proofs.Heard.{err-any}
use Rattle.readerloop.proofs.KeptSteps.{found-id, kept-back, kept-found, kept-unfound}
use Rattle.readerloop.proofs.KeptCalls.{found-fed}
use Rattle.readerloop.proofs.StepLemmas.{concerns-data}
use Rattle.readerloop.proofs.calls.Calls.feed.Goals as goal

pub returns-in_default-clause-heard : goal.returns-in_default-clause-heard
returns-in_default-clause-heard g c = λ sent counted told k.
    let calls = c.args.self.now in
    kept-unfound told (Told (events.Data c.args.id c.args.piece counted) (Received Feed))
    (unsettled calls) (accounts_of calls) calls.last c.args.id (sym c.in_default.ensures)
    (concerns-data c.args.id counted c.args.piece (Received Feed)) k

pub returns-clause-heard : goal.returns-clause-heard
returns-clause-heard g c = λ sent counted told k.
    let calls = c.args.self.now in
    let call = c.in-Some-get_mut.call.now in
    let of =
    found-id (unsettled calls) c.in-Some.place c.args.id call (sym c.in-Some.ensures)
    c.in-Some-get_mut.ensures.value in
    kept-found told (Told (events.Data c.args.id c.args.piece counted) (Received Feed))
    (unsettled calls) (accounts_of calls) calls.last c.args.id c.in-Some.place call c.feed.new.self
    c.in-Some-get_mut.ensures.item.3.0 c.in-Some-get_mut.ensures.value of c.feed.ensures.id
    c.feed.ensures.place (concerns-data c.args.id counted c.args.piece (Received Feed))
    (λ is.
    subst (λ id.
    IsCall g.M.Answering.known g.M.Answering.names (carried_in sent)
    (Told (events.Data id c.args.piece counted) (Received Feed) ∷ told) c.feed.new.self) of
    (c.in_ok-feed.ensures.heard sent counted told is)) k

pub returns-in_err-feed-clause-stays : goal.returns-in_err-feed-clause-stays
returns-in_err-feed-clause-stays g c = err-any c.from_residual.result _ (λ sent told k.
    let calls = c.args.self.now in
    kept-back told (unsettled calls) (accounts_of calls) calls.last c.in-Some.place
    c.in-Some-get_mut.call.now c.feed.new.self
    c.in-Some-get_mut.ensures.item.3.0 c.in-Some-get_mut.ensures.value c.feed.ensures.id
    c.feed.ensures.place (c.in_err-feed.ensures.stays sent told) k)

pub returns-in_err-feed-clause-due : goal.returns-in_err-feed-clause-due
returns-in_err-feed-clause-due g c = err-any c.from_residual.result _ (λ sent told k.
    let calls = c.args.self.now in
    let call = c.in-Some-get_mut.call.now in
    let of =
    found-id (unsettled calls) c.in-Some.place c.args.id call (sym c.in-Some.ensures)
    c.in-Some-get_mut.ensures.value in (
      c.in_err-feed.ensures.due.0,
      found-fed told (unsettled calls) (accounts_of calls) calls.last c.in-Some.place c.args.id call
          c.in-Some-get_mut.ensures.item.3.0 c.in-Some-get_mut.ensures.value of
          c.in_err-feed.ensures.due.1 k,
    ))

pub returns-clause-awaits : goal.returns-clause-awaits
returns-clause-awaits g c =
    awaits-same (unsettled c.args.self.now) c.in-Some.place c.in-Some-get_mut.call.now
    c.feed.new.self c.in-Some-get_mut.ensures.item.3.0 c.in-Some-get_mut.ensures.value
    c.feed.ensures.ends

pub returns-in_err-feed-clause-awaits : goal.returns-in_err-feed-clause-awaits
returns-in_err-feed-clause-awaits g c =
    awaits-same (unsettled c.args.self.now) c.in-Some.place c.in-Some-get_mut.call.now
    c.feed.new.self c.in-Some-get_mut.ensures.item.3.0 c.in-Some-get_mut.ensures.value
    c.feed.ensures.ends

pub returns-in_err-feed-clause-refused : goal.returns-in_err-feed-clause-refused
returns-in_err-feed-clause-refused g c =
    let passed = err_from_is_err_and c.from_residual.result c.from_residual.ensures.1 in
    let calls = c.args.self.now in
    let call = c.in-Some-get_mut.call.now in
    rw (passed.1, passed.2) (
      c.in-Some.place,
      call,
      slice_get_read (unsettled calls) (length (unsettled calls)) c.in-Some.place call refl
          c.in-Some-get_mut.ensures.item.3.0 c.in-Some-get_mut.ensures.value,
      found-id (unsettled calls) c.in-Some.place c.args.id call (sym c.in-Some.ensures)
          c.in-Some-get_mut.ensures.value,
      c.in_err-feed.ensures.refused,
    )
