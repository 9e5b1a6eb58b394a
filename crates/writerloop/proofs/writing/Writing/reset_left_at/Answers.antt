use Rattle.writerloop.proofs.WrittenInbox.{leads-then}
use Rattle.writerloop.proofs.writing.Writing.reset_left_at.Goals as goal

pub returns-clause-leads : goal.returns-clause-leads
returns-clause-leads g c =
    leads-then g.W.ConnWrite.contents g.W.ConnWrite.failed _ _ _ c.left_at.ensures.leads
    c.reset.ensures.leads
