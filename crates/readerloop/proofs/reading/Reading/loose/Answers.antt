use Rattle.reasons.specs.declared.Reason.TheVariants as reason
use Rattle.readerloop.specs.Calls.{carried_in}
use Rattle.std.proofs.Common.{ℕ, ◌≢◌, ◌∷◌, ◌∙◌, [], ap, refl, subst, sym}
use Rattle.connbook.specs.declared.answers.Receipt.{Receipt}
use Rattle.connbook.specs.declared.answers.Receipt.TheVariants.{Overrun}
use Rattle.outwriter.specs.declared.control.WriterOrder.TheVariants.{Goaway}
use Rattle.session.specs.declared.event.InEvent.TheVariants as events
use Rattle.readerloop.specs.Readings.{Decides}
use Rattle.readerloop.specs.Steps.{Received, Told}
use Rattle.readerloop.proofs.Heard.{idle-loose}
use Rattle.readerloop.proofs.ReadingSteps.{
  decides-now,
  loose-calm,
  loose-none,
  no-order,
  one-order,
  quiet,
  reads-idle,
}
use Rattle.readerloop.proofs.reading.Reading.loose.Goals as goal

pub returns-in-Overrun : goal.returns-in-Overrun
returns-in-Overrun g c = record {
  decides = λ sent told reads.
      let flow = c.args.counted.flow in
      subst (λ (receipt : Receipt).
      Decides g.M.Answering.known g.M.Answering.names (carried_in sent) told
      (Told (events.Loose flow) (Received receipt)) c.fatal.result c.args.self.now)
      (sym (sym c.receipt.ensures ∙ c.in-Overrun.is))
      (decides-now told (Told (events.Loose flow) (Received Overrun)) c.fatal.result _
      (one-order c.fatal.result _ c.fatal.ensures.order.0 c.fatal.ensures.order.1
      ∙ ap (λ (last : ℕ). Goaway last reason.Overrun ∷ []) reads.counts.last_is)
      c.fatal.ensures.ends.1 c.fatal.ensures.ends.0
      (reads-idle told _ _ (quiet _ refl refl) (idle-loose flow (Received Overrun)) reads));
}

pub returns-in_default : goal.returns-in_default
returns-in_default g c = record {
  decides = λ sent told reads.
      let done = c.nothing.ensures in
      let receipt = c.args.counted.receipt in
      let flow = c.args.counted.flow in
      let within : receipt ≢ Overrun = λ is. c.in_default.not-Overrun (c.receipt.ensures ∙ is) in
      decides-now told (Told (events.Loose flow) (Received receipt)) c.nothing.result _
      (no-order c.nothing.result done.0 done.1 ∙ sym (loose-none _ receipt within))
      (done.3 ∙ sym (loose-calm flow receipt within)) done.2
      (reads-idle told _ _ (quiet _ refl refl) (idle-loose flow (Received receipt)) reads);
}
