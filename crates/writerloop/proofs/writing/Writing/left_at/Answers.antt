use Rattle.std.proofs.Common.{◌∙◌, refl, sym}
use Rattle.writerloop.proofs.CallSteps.{keys-lanes}
use Rattle.writerloop.proofs.WrittenInbox.{leads-looked}
use Rattle.writerloop.proofs.writing.Writing.left_at.Goals as goal

pub invariant_of-self : goal.invariant_of-self
invariant_of-self g c =
    record { aligned = c.args.self.now.aligned ∙ sym (keys-lanes _ _ c.left_at.ensures.senders) }

pub returns-clause-leads : goal.returns-clause-leads
returns-clause-leads g c =
    leads-looked g.W.ConnWrite.contents g.W.ConnWrite.failed c.args.self.now _ refl
    (record { input = refl; closed = refl; way = refl }) c.left_at.ensures.wrote
    c.left_at.ensures.calls (record { numbers = refl; way = refl }) refl
