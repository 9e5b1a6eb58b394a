use Rattle.connection.proofs.HeardActs.{seats-then}
use Rattle.connection.proofs.reader.Reader.hire.Goals as goal

pub returns-clause-reading : goal.returns-clause-reading
returns-clause-reading g c =
    seats-then c.args.self.now.reading _ _ c.in_ok-reserve.ensures.rest c.add.ensures.rest
