use Rattle.std.proofs.Common.{refl}
use Rattle.session.specs.declared.event.InEvent.TheVariants as events
use Rattle.readerloop.specs.Kept.{accounts_of, unsettled}
use Rattle.readerloop.specs.Steps.{Plain, Told}
use Rattle.readerloop.proofs.Heard.{idle-goaway}
use Rattle.readerloop.proofs.KeptSteps.{kept-idle}
use Rattle.readerloop.proofs.ReadingSteps.{reads-goaway}
use Rattle.readerloop.proofs.reading.Reading.hear_goaway.Goals as goal

pub returns-clause-reads : goal.returns-clause-reads
returns-clause-reads g c = λ sent told reads.
    let calls = c.args.self.now.calls in
    reads-goaway told Plain c.args.self.now _ refl refl refl (λ kept.
    kept-idle told (Told events.PeerGoaway Plain) (unsettled calls) (accounts_of calls) calls.last
    idle-goaway kept) reads
