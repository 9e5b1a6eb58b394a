use Rattle.session.proofs.Stages.{dead_feeds}
use Rattle.session.proofs.in_core.advance.Goals as goal

pub returns-in-Reading-clause-feeds : goal.returns-in-Reading-clause-feeds
returns-in-Reading-clause-feeds c = rw c.in-Reading.is c.read.ensures.feeds

pub returns-in-Greeting-clause-feeds : goal.returns-in-Greeting-clause-feeds
returns-in-Greeting-clause-feeds c = rw c.in-Greeting.is c.greet.ensures.feeds

pub returns-in-Dead-clause-feeds : goal.returns-in-Dead-clause-feeds
returns-in-Dead-clause-feeds c = rw c.in-Dead.is (dead_feeds _ _ _ _ _)
