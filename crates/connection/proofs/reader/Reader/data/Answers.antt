use Rattle.std.proofs.Common.{ℕ, arith, refl, subst}
use Rattle.session.specs.declared.event.InEvent.TheVariants as events
use Rattle.readerloop.specs.Readings.{DecidesOn, MayMiss, fate_of}
use Rattle.readerloop.specs.Steps.{Told}
use Rattle.connection.proofs.HeardActs.{with-one, with-quiet}
use Rattle.connection.proofs.Opens.{plain-own}
use Rattle.connection.proofs.Tallies.{bytes-justified, covers-bytes, may-refuse}
use Rattle.connection.proofs.reader.Reader.data.Goals as goal

pub returns : goal.returns
returns g c = record {
  reads =
      let whose = c.receive-counted.ensures.whose in
      let receipt = c.receive-counted.result.receipt in
      let event = events.Data c.args.id c.args.bytes c.args.flow in
      let fate = fate_of receipt c.data-decided.result.order c.data-decided.result.ends in
      with-quiet _ _ _ _ _ _ _ _ _ _ c.note_credit.ensures.reading c.note_credit.ensures.same
      (with-one _ _ event fate _ _ _ _ _ _ _
      (λ sent told reads covers.
      bytes-justified c.args.id c.args.flow c.args.bytes told receipt
      c.data-decided.result.order c.data-decided.result.ends
      (may-refuse receipt _ _ c.receive-counted.ensures.justified (omega (arith, covers.came)))
      (subst (λ (id : ℕ). MayMiss id c.args.bytes fate told) whose.0
      (c.data-decided.ensures.missed sent told reads)))
      (λ told covers.
      covers-bytes event fate told _ _ receipt c.args.flow
      c.receive-counted.ensures.calls c.receive-counted.ensures.counted refl covers)
      c.act.ensures.ends c.data-decided.ensures.home
      (subst (λ (flow : ℕ).
      DecidesOn g.M.Answering.known g.M.Answering.names
      (Told (events.Data c.args.id c.args.bytes flow) fate) c.data-decided.result
      c.note_credit.new.self.reading c.data-decided.new.self) whose.1
      (subst (λ (id : ℕ).
      DecidesOn g.M.Answering.known g.M.Answering.names
      (Told (events.Data id c.args.bytes c.receive-counted.result.flow) fate)
      c.data-decided.result c.note_credit.new.self.reading c.data-decided.new.self) whose.0
      c.data-decided.ensures.decides))
      (λ told is. plain-own told (Told event fate) c.data-decided.result refl is) c.act.ensures.acts
      tt);
}
