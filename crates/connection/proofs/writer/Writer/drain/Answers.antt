use Rattle.std.proofs.Common.{◌∙◌, refl}
use Rattle.writerloop.proofs.WrittenInbox.{leads-here, leads-then}
use Rattle.connection.proofs.writer.Writer.drain.Goals as goal

pub orders-init : goal.orders-init
orders-init g c =
    (leads-here g.W.ConnWrite.contents g.W.ConnWrite.failed c.args.self.now.writing, refl)

pub orders-preserved : goal.orders-preserved
orders-preserved g c = (
  leads-then g.W.ConnWrite.contents g.W.ConnWrite.failed _ _ _ c.orders.invariant.0
      c.take_next.ensures.leads,
  c.take_next.ensures.outlet ∙ c.orders.invariant.1,
)
