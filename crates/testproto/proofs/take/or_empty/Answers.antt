use Rattle.testproto.proofs.Joining.{absent}
use Rattle.testproto.proofs.take.or_empty.Goals as goal

pub returns-in-None : goal.returns-in-None
returns-in-None g c contents had =
    absent g.M.Message.is_value contents c.empty.result (rw c.in-None.is at had) c.empty.ensures
