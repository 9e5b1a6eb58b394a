use Rattle.lpm.proofs.Readings.{reading_exists, Spells-read, IsFaultyAfter-read, never_both}
use Rattle.lpm.proofs.laws.one_reading.Goals as goal

pub returns-clause-some : goal.returns-clause-some
returns-clause-some c = reading_exists

pub returns-clause-spelled : goal.returns-clause-spelled
returns-clause-spelled c = Spells-read

pub returns-clause-faulty : goal.returns-clause-faulty
returns-clause-faulty c = IsFaultyAfter-read

pub returns-clause-never_both : goal.returns-clause-never_both
returns-clause-never_both c = never_both
