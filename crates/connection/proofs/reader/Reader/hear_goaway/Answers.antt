use Rattle.std.proofs.Common.{refl}
use Rattle.session.specs.declared.event.InEvent.TheVariants as events
use Rattle.readerloop.specs.Steps.{Plain}
use Rattle.connection.proofs.HeardActs.{to-silent}
use Rattle.connection.proofs.reader.Reader.hear_goaway.Goals as goal

pub returns : goal.returns
returns g c = record {
  reads =
      to-silent events.PeerGoaway Plain _ _ _ _ (λ told. refl) refl (λ told. tt)
      c.hear_goaway.ensures.home c.hear_goaway.ensures.reads (refl, refl, refl, refl, refl) tt;
}
