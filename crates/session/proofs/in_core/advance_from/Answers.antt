use Rattle.session.proofs.Reading.{reads_more}
use Rattle.session.proofs.Stages.{reading_feeds}
use Rattle.session.proofs.in_core.advance_from.Goals as goal

pub returns-in_ok-next-in-Reading-clause-feeds : goal.returns-in_ok-next-in-Reading-clause-feeds
returns-in_ok-next-in-Reading-clause-feeds g c =
    let read = c.in_ok-count-in-Reading.ensures.ok in
    let waiting = c.in_ok-next-in-Reading.ensures.reads in
    rw c.in-Reading.is (
      read.0,
      read.1,
      read.2,
      reading_feeds c.in-Reading.position _ _ _ _ _ _ _ _ _ _ waiting.sound
          (λ text before reads. waiting.reads _ before (reads_more _ _ _ _ _ _ _ _ read.4 reads)),
    )
