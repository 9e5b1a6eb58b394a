use Rattle.readerloop.proofs.Starting.{ungot-sender}
use Rattle.readerloop.proofs.reading.streams.ends_of.Goals as goal

pub returns-clause-stands : goal.returns-clause-stands
returns-clause-stands g c = c.in_ok-sending.ensures.stands

pub returns-clause-ungot : goal.returns-clause-ungot
returns-clause-ungot g c = ungot-sender _ _ c.in_ok-sending.ensures.sender c.requires.ungot
