use Rattle.connection.proofs.OpenedOnce.{once-opened}
use Rattle.connection.proofs.sent.opened_once.Goals as goal

pub returns : goal.returns
returns c = once-opened
