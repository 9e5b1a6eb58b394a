use Rattle.std.proofs.Common.{refl}
use Rattle.readerloop.proofs.ReadingSteps.{reads-same}
use Rattle.readerloop.proofs.Collecting.{next-calls, same-room}
use Rattle.readerloop.proofs.reading.Reading.take_back.Goals as goal

pub returns-clause-stays : goal.returns-clause-stays
returns-clause-stays g c = λ sent told is reads.
    reads-same told c.args.self.now _ refl refl refl refl
    (λ kept. c.take_back.ensures.stays sent is told kept) reads

pub returns-clause-next : goal.returns-clause-next
returns-clause-next g c =
    next-calls c.args.self.now.calls c.take_back.new.self c.args.self.now.is_draining
    c.take_back.ensures.last (same-room _ _ c.take_back.ensures.accounts)
