use Rattle.writerloop.proofs.WrittenInbox.{stays-here}
use Rattle.writerloop.proofs.writing.Writing.release_ended_at.Goals as goal

pub returns-in-None : goal.returns-in-None
returns-in-None g c =
    record { stays = stays-here g.W.ConnWrite.contents g.W.ConnWrite.failed c.args.self.now }
