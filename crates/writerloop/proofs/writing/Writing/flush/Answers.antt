use Rattle.std.proofs.Common.{ap, refl}
use Rattle.writerloop.proofs.WrittenSteps.{goes-none}
use Rattle.writerloop.proofs.WrittenFrames.{flushes-on}
use Rattle.writerloop.proofs.WrittenInbox.{stays-by}
use Rattle.writerloop.proofs.writing.Writing.flush.Goals as goal

pub returns-clause-stays : goal.returns-clause-stays
returns-clause-stays g c =
    stays-by g.W.ConnWrite.contents g.W.ConnWrite.failed c.args.self.now _ refl (λ kept. kept)
    (record { input = refl; closed = refl; way = refl })
    (flushes-on g.W.ConnWrite.contents g.W.ConnWrite.failed c.args.self.now.inbox.has_lost
    c.flush.result c.args.self.now _ c.flush.ensures.wrote
    (goes-none c.args.self.now _ (record { numbers = refl; way = refl }) refl
    (ap (λ core. core.sending.senders.items) c.flush.ensures.core)) c.flush.ensures.core
    c.flush.ensures.stands
    c.flush.ensures.broken)
