use Rattle.std.proofs.Common.{◌∙◌}
use Rattle.writerloop.proofs.WrittenInbox.{leads-then, stays-then, to-behind, to-out, to-still}
use Rattle.connection.proofs.writer.Writer.write_once.Goals as goal

pub returns-clause-leads : goal.returns-clause-leads
returns-clause-leads g c =
    to-still g.W.ConnWrite.contents g.W.ConnWrite.failed _ _ _ _ _ _
    (to-behind g.W.ConnWrite.contents g.W.ConnWrite.failed _ _ _ _ _ _ c.drain.ensures.leads
    c.drain.ensures.outlet c.grant_due.ensures.leads)
    (leads-then g.W.ConnWrite.contents g.W.ConnWrite.failed _ _ _ c.fill-filled.ensures.leads
    (stays-then g.W.ConnWrite.contents g.W.ConnWrite.failed _ _ _ c.say_last.ensures.stays
    (stays-then g.W.ConnWrite.contents g.W.ConnWrite.failed _ _ _ c.release_all.ensures.stays
    c.flush.ensures.stays)).leads)
    (c.flush.ensures.outlet ∙ (c.release_all.ensures.outlet ∙ c.say_last.ensures.outlet))

pub returns-clause-over : goal.returns-clause-over
returns-clause-over g c = λ over.
    to-out g.W.ConnWrite.contents g.W.ConnWrite.failed _ _ _ _ _ _ _
    (to-behind g.W.ConnWrite.contents g.W.ConnWrite.failed _ _ _ _ _ _ c.drain.ensures.leads
    c.drain.ensures.outlet c.grant_due.ensures.leads)
    (c.fill-filled.ensures.over over)
    (stays-then g.W.ConnWrite.contents g.W.ConnWrite.failed _ _ _ c.say_last.ensures.stays
    (stays-then g.W.ConnWrite.contents g.W.ConnWrite.failed _ _ _ c.release_all.ensures.stays
    c.flush.ensures.stays))
    (c.flush.ensures.outlet ∙ (c.release_all.ensures.outlet ∙ c.say_last.ensures.outlet))

pub returns-clause-stopped : goal.returns-clause-stopped
returns-clause-stopped g c = λ stopped.
    to-out g.W.ConnWrite.contents g.W.ConnWrite.failed _ _ _ _ _ _ _
    (to-behind g.W.ConnWrite.contents g.W.ConnWrite.failed _ _ _ _ _ _ c.drain.ensures.leads
    c.drain.ensures.outlet c.grant_due.ensures.leads)
    (c.fill-filled.ensures.stopped stopped)
    (stays-then g.W.ConnWrite.contents g.W.ConnWrite.failed _ _ _ c.say_last.ensures.stays
    (stays-then g.W.ConnWrite.contents g.W.ConnWrite.failed _ _ _ c.release_all.ensures.stays
    c.flush.ensures.stays))
    (c.flush.ensures.outlet ∙ (c.release_all.ensures.outlet ∙ c.say_last.ensures.outlet))
