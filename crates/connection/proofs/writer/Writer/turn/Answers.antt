use Rattle.std.proofs.Common.{subst, sym}
use Rattle.writerloop.specs.Written.{LeadsOutTo}
use Rattle.writerloop.proofs.WrittenInbox.{to-still}
use Rattle.connection.proofs.writer.Writer.turn.Goals as goal

pub returns-in-Over-clause-over : goal.returns-in-Over-clause-over
returns-in-Over-clause-over g c = λ yes.
    c.write_once-filled.ensures.over (c.after_write.ensures.over c.in-Over.is)

pub returns-in-Idle-clause-leads : goal.returns-in-Idle-clause-leads
returns-in-Idle-clause-leads g c =
    to-still g.W.ConnWrite.contents g.W.ConnWrite.failed _ _ _ _ _ _
    c.write_once-filled.ensures.leads c.reset_left.ensures.leads
    c.reset_left.ensures.outlet

pub returns-in-None-clause-leads : goal.returns-in-None-clause-leads
returns-in-None-clause-leads g c =
    to-still g.W.ConnWrite.contents g.W.ConnWrite.failed _ _ _ _ _ _
    c.write_once-filled.ensures.leads c.reset_between.ensures.leads
    c.reset_between.ensures.outlet

pub returns-in-StoppedOver-clause-over : goal.returns-in-StoppedOver-clause-over
returns-in-StoppedOver-clause-over g c = λ yes.
    subst
    (λ writer.
    LeadsOutTo g.W.ConnWrite.contents g.W.ConnWrite.failed c.args.self.now.outlet
    c.args.self.now.writing writer.outlet writer.writing)
    (sym c.stop.ensures.rest)
    (c.write_once-filled.ensures.stopped (c.after_write.ensures.stopped c.in-StoppedOver.is))
