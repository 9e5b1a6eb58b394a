use Rattle.std.proofs.Common.{◌∙◌, Some, refl, sym}
use Rattle.writerloop.proofs.CallSteps.{keys-lanes}
use Rattle.writerloop.proofs.WrittenSteps.{goes-frames}
use Rattle.writerloop.proofs.WrittenFrames.{fills-on, fills-over, fills-stopped}
use Rattle.writerloop.proofs.WrittenInbox.{leads-out, leads-still}
use Rattle.writerloop.proofs.writing.Writing.fill.Goals as goal

pub invariant_of-self : goal.invariant_of-self
invariant_of-self g c =
    record { aligned = c.args.self.now.aligned ∙ sym (keys-lanes _ _ c.fill.ensures.senders) }

pub returns-clause-leads : goal.returns-clause-leads
returns-clause-leads g c =
    leads-still g.W.ConnWrite.contents g.W.ConnWrite.failed c.args.self.now _ refl
    (record { input = refl; closed = refl; way = refl })
    (fills-on g.W.ConnWrite.contents g.W.ConnWrite.failed (Some c.fill.result) c.args.self.now _
    c.fill.ensures.wrote (λ frames.
    goes-frames frames c.args.self.now _ (record { numbers = refl; way = refl }) refl
    c.fill.ensures.gave))

pub returns-clause-over : goal.returns-clause-over
returns-clause-over g c = λ over.
    leads-out g.W.ConnWrite.contents g.W.ConnWrite.failed c.args.self.now _ refl
    (record { input = refl; closed = refl; way = refl })
    (fills-over g.W.ConnWrite.contents g.W.ConnWrite.failed c.fill.result c.args.self.now _
    c.fill.ensures.wrote (λ frames.
    goes-frames frames c.args.self.now _ (record { numbers = refl; way = refl }) refl
    c.fill.ensures.gave) over)

pub returns-clause-stopped : goal.returns-clause-stopped
returns-clause-stopped g c = λ stopped.
    leads-out g.W.ConnWrite.contents g.W.ConnWrite.failed c.args.self.now _ refl
    (record { input = refl; closed = refl; way = refl })
    (fills-stopped g.W.ConnWrite.contents g.W.ConnWrite.failed c.fill.result c.args.self.now _
    c.fill.ensures.wrote (λ frames.
    goes-frames frames c.args.self.now _ (record { numbers = refl; way = refl }) refl
    c.fill.ensures.gave) stopped)
