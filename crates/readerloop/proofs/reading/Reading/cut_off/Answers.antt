use Rattle.std.proofs.Common.{refl, ◌∙◌, sym}
use Rattle.account.specs.declared.call.Shut.TheVariants as shut
use Rattle.h2frame.specs.ErrorCode.{error_number}
use Rattle.h2frame.specs.declared.error_code.ErrorCode.TheVariants.{Cancel}
use Rattle.readerloop.specs.declared.decision.HalfToShut.{HalfToShut}
use Rattle.readerloop.specs.Kept.{accounts_of, unsettled}
use Rattle.readerloop.specs.Readings.{DecidesOn}
use Rattle.readerloop.specs.Steps.{CutOff}
use Rattle.readerloop.proofs.Heard.{some-and}
use Rattle.readerloop.proofs.KeptCalls.{fed-at}
use Rattle.readerloop.proofs.ReadingSteps.{awaits-cut, cut-fed, decides-cut, one-order, quiet}
use Rattle.readerloop.proofs.StepLemmas.{closes-cut, concerns-cut}
use Rattle.readerloop.proofs.reading.Reading.cut_off.Goals as goal

pub returns-clause-decides : goal.returns-clause-decides
returns-clause-decides g c =
    let id = c.in_ok-id.id in
    let done = c.reset.ensures in
    let cut : HalfToShut = record { id = id; kind = shut.Reset (error_number Cancel) } in
    let calls = c.args.self.now.calls in
    some-and c.reset.result.to_shut cut (λ (found : HalfToShut).
    DecidesOn g.M.Answering.known g.M.Answering.names (CutOff found.id) c.reset.result
    c.args.self.now c.args.self.now) done.cut
    (λ sent told reads.
    decides-cut told (CutOff id) c.reset.result cut c.args.self.now
    (one-order c.reset.result _ done.order.0 done.order.1
    ∙ sym (cut-fed id told (fed-at told (unsettled calls) (accounts_of calls) calls.last
    c.args.place id (sym c.in_ok-id.ensures) reads.calls))) done.ends done.cut
    (awaits-cut told (CutOff id) cut c.args.self.now (quiet _ refl refl) (concerns-cut id)
    (closes-cut id _ refl) reads))
