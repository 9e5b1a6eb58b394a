use Rattle.std.proofs.Common.{refl}
use Rattle.session.specs.declared.event.InEvent.TheVariants as events
use Rattle.readerloop.specs.Readings.{unless_ended}
use Rattle.readerloop.specs.Steps.{Plain}
use Rattle.connection.proofs.HeardActs.{to-one}
use Rattle.connection.proofs.Tallies.{ended-justified}
use Rattle.connection.proofs.reader.Reader.refuse.Goals as goal

pub returns : goal.returns
returns g c = record {
  reads =
      to-one (events.BadHead c.args.id c.args.fault)
      (unless_ended c.refuse-decided.result.ends Plain) _ _ _ _ _ _ _
      (λ told.
      ended-justified (events.BadHead c.args.id c.args.fault) Plain told
      c.refuse-decided.result.ends tt tt) c.act.ensures.ends c.refuse-decided.ensures.home refl
      c.refuse-decided.ensures.decides c.act.ensures.acts tt;
}
