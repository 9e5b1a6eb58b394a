use Rattle.std.proofs.Common.{refl}
use Rattle.session.specs.declared.event.InEvent.TheVariants as events
use Rattle.readerloop.specs.Steps.{Plain}
use Rattle.connection.proofs.HeardActs.{to-silent}
use Rattle.connection.proofs.reader.Reader.end_half.Goals as goal

pub returns : goal.returns
returns g c = record {
  reads =
      to-silent (events.End c.args.id) Plain _ _ _ _ (λ told. refl) refl (λ told. tt)
      c.end_half.ensures.home c.end_half.ensures.reads (refl, refl, refl, refl, refl) tt;
}
