use Rattle.std.proofs.Common.{ap, refl}
use Rattle.writerloop.proofs.WrittenInbox.{leads-granted}
use Rattle.writerloop.proofs.writing.Writing.grant.Goals as goal

pub returns : goal.returns
returns g c = record {
  leads = λ had has is.
      leads-granted g.W.ConnWrite.contents g.W.ConnWrite.failed c.id.result c.increment.result had has
      c.args.self.now _ (rw (c.id.ensures, c.increment.ensures.value) is) c.grant.ensures.wrote refl
      (record { input = refl; closed = refl; way = refl })
      (record { numbers = refl; way = refl }) refl
      (ap (λ senders. senders.items) c.grant.ensures.senders);
}
