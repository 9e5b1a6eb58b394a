use Rattle.writerloop.proofs.WrittenInbox.{stays-here, stays-then}
use Rattle.writerloop.proofs.writing.Writing.release_all.Goals as goal

pub ended-init : goal.ended-init
ended-init g c = stays-here g.W.ConnWrite.contents g.W.ConnWrite.failed c.args.self.now

pub ended-preserved : goal.ended-preserved
ended-preserved g c =
    stays-then g.W.ConnWrite.contents g.W.ConnWrite.failed _ _ _ c.ended.invariant
    c.release_ended_at.ensures.stays
