use Rattle.std.proofs.Common.{refl}
use Rattle.readerloop.proofs.Collecting.{collected-after, collected-none}
use Rattle.readerloop.proofs.reading.Reading.collect_finished.Goals as goal

pub workers-init : goal.workers-init
workers-init g c = collected-none _ _ refl refl refl refl refl refl refl

pub workers-preserved : goal.workers-preserved
workers-preserved g c = collected-after _ _ _ c.workers.invariant c.collect_from.ensures
