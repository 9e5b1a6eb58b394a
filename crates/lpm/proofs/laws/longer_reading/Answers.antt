use Rattle.lpm.proofs.Readings.{longer_messages, IsFaultyAfter-longer}
use Rattle.std.proofs.Common.{ap}
use Rattle.lpm.specs.Reading.{Reading}
use Rattle.lpm.proofs.WholeMessages.{reading_of-frames}
use Rattle.lpm.proofs.laws.longer_reading.Goals as goal

pub returns-clause-messages : goal.returns-clause-messages
returns-clause-messages c = longer_messages

pub returns-clause-fault : goal.returns-clause-fault
returns-clause-fault c = IsFaultyAfter-longer

pub returns-clause-behind : goal.returns-clause-behind
returns-clause-behind c = λ messages rest each.
    let e = reading_of-frames messages rest each in (
      ap (λ (r : Reading). r.messages) e,
      ap (λ (r : Reading). r.rest) e,
      ap (λ (r : Reading). r.fault) e,
    )
