use Rattle.std.proofs.Common.{refl}
use Rattle.session.specs.declared.event.InEvent.TheVariants as events
use Rattle.readerloop.specs.Steps.{NoWorker, Told, Unserved}
use Rattle.connection.specs.Limits.{one_more}
use Rattle.connection.proofs.HeardActs.{with-one}
use Rattle.connection.proofs.Opens.{plain-own}
use Rattle.connection.proofs.Tallies.{covers-call}
use Rattle.connection.proofs.reader.Reader.lose.Goals as goal

pub returns : goal.returns
returns g c = record {
  reads = λ head tally named.
      with-one tally (one_more tally) (events.Open c.args.id head) (Unserved NoWorker) _ _ _ _ _ _ _
      (λ sent told reads covers. tt) (λ told covers.
      covers-call tally (events.Open c.args.id head) (Unserved NoWorker) c.args.id told refl covers)
      c.act.ensures.ends c.lose-decided.ensures.home
      (c.lose-decided.ensures.unserved head named) (λ told is.
      plain-own told (Told (events.Open c.args.id head) (Unserved NoWorker)) c.lose-decided.result
      refl is) c.act.ensures.acts tt;
}
