use Rattle.connection.proofs.HeardActs.{seats-then}
use Rattle.connection.proofs.reader.Reader.join_all.Goals as goal

pub hands-preserved : goal.hands-preserved
hands-preserved g c = (
  seats-then c.args.self.now.reading _ _ c.hands.invariant.0 c.meet.ensures.rest,
  c.hands.invariant.1,
)
