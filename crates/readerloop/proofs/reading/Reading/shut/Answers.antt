use Rattle.std.proofs.Common.{refl}
use Rattle.readerloop.proofs.ReadingSteps.{shuts-awaited}
use Rattle.readerloop.proofs.Collecting.{next-calls, same-room}
use Rattle.readerloop.proofs.reading.Reading.shut.Goals as goal

pub returns-clause-heard : goal.returns-clause-heard
returns-clause-heard g c = λ sent told step awaits.
    shuts-awaited told step c.args.half c.args.self.now _ refl refl refl refl
    (λ concerns closes kept. c.shut-worker.ensures.heard sent step concerns closes told kept) awaits

pub returns-clause-next : goal.returns-clause-next
returns-clause-next g c =
    next-calls c.args.self.now.calls c.shut-worker.new.self c.args.self.now.is_draining
    c.shut-worker.ensures.last (same-room _ _ c.shut-worker.ensures.accounts)
