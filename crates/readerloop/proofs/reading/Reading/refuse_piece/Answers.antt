use Rattle.reasons.specs.declared.Reason.TheVariants as reason
use Rattle.std.proofs.Common.{◌∙◌, ◌∷◌, [], ℕ, Some, ap, refl}
use Rattle.account.specs.declared.call.Shut.TheVariants as shut
use Rattle.h2frame.specs.ErrorCode.{error_number}
use Rattle.h2frame.specs.declared.error_code.ErrorCode.TheVariants.{EnhanceYourCalm, InternalError}
use Rattle.outwriter.specs.declared.control.WriterOrder.TheVariants.{Goaway}
use Rattle.session.specs.declared.event.InEvent.TheVariants as events
use Rattle.readerloop.specs.declared.decision.HalfToShut.{HalfToShut}
use Rattle.readerloop.specs.Steps.{Lacking, Missed, Told}
use Rattle.readerloop.proofs.ReadingSteps.{
  awaits-cut,
  decides-as,
  decides-cut,
  fate-lacks,
  fate-missed,
  one-order,
  quiet,
}
use Rattle.readerloop.proofs.StepLemmas.{closes-lost, concerns-data}
use Rattle.readerloop.proofs.reading.Reading.refuse_piece.Goals as goal

pub returns-in-OutOfMemory : goal.returns-in-OutOfMemory
returns-in-OutOfMemory g c = record {
  decides = λ piece counted sent told reads.
      let done = c.run_out.ensures in
      let step = Told (events.Data c.args.id piece counted) Lacking in
      let cut : HalfToShut = record { id = c.args.id; kind = shut.Reset c.code.result } in
      let decided = record c.run_out.result { to_shut = Some cut } in
      decides-as told step _ decided c.args.self.now
      (fate-lacks c.args.id counted piece decided.order decided.ends _ _ done.order.1 done.ends.1)
      (decides-cut told step decided cut c.args.self.now
      (one-order decided _ done.order.0 done.order.1
      ∙ ap (λ (last : ℕ). Goaway last reason.Memory ∷ []) reads.counts.last_is) done.ends.1 refl
      (awaits-cut told step cut c.args.self.now (quiet _ refl refl)
      (concerns-data c.args.id counted piece Lacking)
      (closes-lost c.args.id counted _ piece Lacking InternalError refl c.code.ensures) reads));
}

pub returns : goal.returns
returns g c = record {
  decides = λ piece counted sent told reads.
      let done = c.reset.ensures in
      let step = Told (events.Data c.args.id piece counted) Missed in
      let cut : HalfToShut =
      record { id = c.args.id; kind = shut.Reset (error_number EnhanceYourCalm) } in
      decides-as told step _ c.reset.result c.args.self.now (fate-missed c.args.id counted piece
      c.reset.result.order c.reset.result.ends _ done.order.1 done.ends)
      (decides-cut told step c.reset.result cut c.args.self.now
      (one-order c.reset.result _ done.order.0 done.order.1) done.ends done.cut
      (awaits-cut told step cut c.args.self.now (quiet _ refl refl)
      (concerns-data c.args.id counted piece Missed)
      (closes-lost c.args.id counted _ piece Missed EnhanceYourCalm refl refl) reads));
}
