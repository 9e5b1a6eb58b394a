use Rattle.std.proofs.Common.{refl}
use Rattle.readerloop.proofs.Collecting.{next-calls}
use Rattle.readerloop.proofs.Heard.{some-map}
use Rattle.readerloop.proofs.ReadingSteps.{reads-same}
use Rattle.readerloop.proofs.reading.Reading.settle_next.Goals as goal

pub returns-clause-settled : goal.returns-clause-settled
returns-clause-settled g c =
    some-map c.settle_next.result _ _
    (λ account settled sent told reads. settled sent told reads.calls) c.settle_next.ensures.settled

pub returns-clause-stays : goal.returns-clause-stays
returns-clause-stays g c = λ sent told reads.
    reads-same told c.args.self.now _ refl refl refl refl
    (c.settle_next.ensures.stays sent told) reads

pub returns-clause-next : goal.returns-clause-next
returns-clause-next g c =
    next-calls c.args.self.now.calls c.settle_next.new.self c.args.self.now.is_draining
    c.settle_next.ensures.last c.settle_next.ensures.room
