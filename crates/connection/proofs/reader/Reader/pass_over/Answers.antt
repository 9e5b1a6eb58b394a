use Rattle.std.proofs.Common.{refl}
use Rattle.session.specs.declared.event.InEvent.TheVariants as events
use Rattle.readerloop.specs.Steps.{Stopped, Told, Unserved}
use Rattle.connection.specs.Limits.{one_more}
use Rattle.connection.proofs.HeardActs.{with-one}
use Rattle.connection.proofs.Opens.{plain-own}
use Rattle.connection.proofs.Tallies.{covers-call}
use Rattle.connection.proofs.reader.Reader.pass_over.Goals as goal

pub returns : goal.returns
returns g c = record {
  reads = λ head tally named.
      with-one tally (one_more tally) (events.Open c.args.id head) (Unserved Stopped) _ _ _ _ _ _ _
      (λ sent told reads covers. tt) (λ told covers.
      covers-call tally (events.Open c.args.id head) (Unserved Stopped) c.args.id told refl covers)
      c.act.ensures.ends c.pass_over-decided.ensures.home
      (c.pass_over-decided.ensures.decides head named) (λ told is.
      plain-own told (Told (events.Open c.args.id head) (Unserved Stopped))
      c.pass_over-decided.result refl is) c.act.ensures.acts c.requires.stopped;
}
