use Rattle.connection.proofs.HeardActs.{cuts-drain, cuts-none, cuts-same-orders}
use Rattle.connection.proofs.reader.Reader.drain.Goals as goal

pub returns-then-is_draining-clause-cuts : goal.returns-then-is_draining-clause-cuts
returns-then-is_draining-clause-cuts g c = cuts-none _ _ _

pub returns-clause-cuts : goal.returns-clause-cuts
returns-clause-cuts g c =
    cuts-same-orders _ _ _ _ _ c.wake_writer.ensures.same
    (cuts-drain _ _ _ _ _ _ c.drain-decided.ensures.home c.drain-decided.ensures.decides
    c.act.ensures.acts)
