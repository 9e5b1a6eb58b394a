use Rattle.std.proofs.Common.{ℕ, arith, refl, subst}
use Rattle.session.specs.declared.event.InEvent.TheVariants as events
use Rattle.readerloop.specs.Readings.{DecidesOn}
use Rattle.readerloop.specs.Steps.{Received, Told}
use Rattle.connection.proofs.HeardActs.{with-one, with-quiet}
use Rattle.connection.proofs.Opens.{plain-own}
use Rattle.connection.proofs.Tallies.{covers-bytes, may-refuse}
use Rattle.connection.proofs.reader.Reader.loose.Goals as goal

pub returns : goal.returns
returns g c = record {
  reads =
      let receipt = c.receive-counted.result.receipt in
      with-quiet _ _ _ _ _ _ _ _ _ _ c.note_credit.ensures.reading c.note_credit.ensures.same
      (with-one _ _ (events.Loose c.args.flow) (Received receipt)
      c.loose-decided.result _ c.note_credit.new.self.reading c.note_credit.new.self.reading
      c.act.new.self.reading c.note_credit.new.self.orders c.act.new.self.orders
      (λ sent told reads covers.
      may-refuse receipt _ _ c.receive-counted.ensures.justified (omega (arith, covers.came)))
      (λ told covers.
      covers-bytes (events.Loose c.args.flow) (Received receipt) told _ _ receipt c.args.flow
      c.receive-counted.ensures.calls c.receive-counted.ensures.counted refl covers)
      c.act.ensures.ends refl
      (subst (λ (flow : ℕ).
      DecidesOn g.M.Answering.known g.M.Answering.names (Told (events.Loose flow) (Received receipt))
      c.loose-decided.result c.note_credit.new.self.reading c.note_credit.new.self.reading)
      c.receive-counted.ensures.whose.1 c.loose-decided.ensures.decides)
      (λ told is.
      plain-own told (Told (events.Loose c.args.flow) (Received receipt)) c.loose-decided.result
      refl is) c.act.ensures.acts tt);
}
