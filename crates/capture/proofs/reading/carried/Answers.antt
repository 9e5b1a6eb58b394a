use Rattle.capture.proofs.Records.{none_carried}
use Rattle.capture.proofs.reading.carried.Goals as goal

pub returns-in-None-clause-none : goal.returns-in-None-clause-none
returns-in-None-clause-none c = none_carried c.args.packet.now c.in-None.ensures.none
