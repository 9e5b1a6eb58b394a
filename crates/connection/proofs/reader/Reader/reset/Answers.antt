use Rattle.std.proofs.Common.{refl}
use Rattle.session.specs.declared.event.InEvent.TheVariants as events
use Rattle.readerloop.specs.Steps.{Plain}
use Rattle.connection.proofs.HeardActs.{to-one}
use Rattle.connection.proofs.reader.Reader.reset.Goals as goal

pub returns : goal.returns
returns g c = record {
  reads =
      to-one (events.Reset c.args.id c.args.code) Plain _ _ _ _ _ _ _ (λ told. tt)
      c.act.ensures.ends refl refl c.reset-decided.ensures.decides c.act.ensures.acts tt;
}
