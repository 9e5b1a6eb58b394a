use Rattle.std.proofs.Common.{refl}
use Rattle.session.specs.declared.event.InEvent.TheVariants as events
use Rattle.readerloop.specs.Steps.{Plain}
use Rattle.connection.proofs.HeardActs.{to-one}
use Rattle.connection.proofs.reader.Reader.fatal.Goals as goal

pub returns : goal.returns
returns g c = record {
  reads =
      to-one (events.Fatal c.args.reason) Plain _ _ _ _ _ _ _ (λ told. tt) c.act.ensures.ends refl
      refl c.fatal-decided.ensures.decides c.act.ensures.acts tt;
}
