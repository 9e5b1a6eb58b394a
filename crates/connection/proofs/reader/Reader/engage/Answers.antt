use Rattle.std.proofs.Common.{refl}
use Rattle.session.specs.declared.event.InEvent.TheVariants as events
use Rattle.readerloop.specs.Steps.{Admitted}
use Rattle.connection.specs.Limits.{one_more}
use Rattle.connection.proofs.HeardActs.{collects-stays, with-collected, with-one}
use Rattle.connection.proofs.Opens.{begun-own}
use Rattle.connection.proofs.Tallies.{covers-call}
use Rattle.connection.proofs.reader.Reader.engage.Goals as goal

pub returns-in-Ok : goal.returns-in-Ok
returns-in-Ok g c = record {
  reads = λ tally.
      with-one tally (one_more tally) (events.Open c.args.request.id c.args.request.head)
      Admitted _ _ _ _ _ _ _
      (λ sent told reads covers. tt) (λ told covers.
      covers-call tally (events.Open c.args.request.id c.args.request.head) Admitted
      c.args.request.id told refl covers)
      c.act.ensures.ends c.engage.ensures.home c.in-Ok.ensures.engaged
      (λ told is. begun-own c.args.request _ c.in-Ok.ensures.opens) c.act.ensures.acts tt;
}

pub returns-in-Err : goal.returns-in-Err
returns-in-Err g c = record {
  reads = λ tally.
      with-collected _ _ _ _ _ _ _ _ _ _
      (collects-stays _ _ c.engage.ensures.home c.in-Err.ensures.stays)
      (refl, refl, refl, refl, refl)
      (c.lose.ensures.reads c.args.request.head tally c.requires.named);
}

pub lose-requires-clause-next : goal.lose-requires-clause-next
lose-requires-clause-next g c κs within = c.in-Err.ensures.next c.args.request.id c.requires.next
