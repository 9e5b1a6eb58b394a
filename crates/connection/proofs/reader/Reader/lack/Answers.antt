use Rattle.connection.proofs.HeardBytes.{kept-lack}
use Rattle.connection.proofs.reader.Reader.lack.Goals as goal

pub returns-clause-home : goal.returns-clause-home
returns-clause-home g c = c.act.ensures.acts.home

pub returns-clause-kept : goal.returns-clause-kept
returns-clause-kept g c = λ sent told kept.
    kept-lack sent told _ _ _ _ _ _ c.run_out-decided.ensures.decides c.act.ensures.acts kept
