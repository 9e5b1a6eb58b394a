use Rattle.std.proofs.Common.{refl}
use Rattle.readerloop.proofs.Collecting.{collected-after, collected-none}
use Rattle.readerloop.proofs.reading.Reading.collect_senders.Goals as goal

pub senders-init : goal.senders-init
senders-init g c = collected-none _ _ refl refl refl refl refl refl refl

pub senders-preserved : goal.senders-preserved
senders-preserved g c = collected-after _ _ _ c.senders.invariant c.collect_sender.ensures

pub returns-then-not-collect_sender : goal.returns-then-not-collect_sender
returns-then-not-collect_sender g c =
    collected-after _ _ _ c.senders.invariant c.collect_sender.ensures
