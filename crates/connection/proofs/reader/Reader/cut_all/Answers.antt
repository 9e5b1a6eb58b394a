use Rattle.connection.proofs.HeardActs.{cuts-none, cuts-then}
use Rattle.connection.proofs.reader.Reader.cut_all.Goals as goal

pub places-init : goal.places-init
places-init g c = cuts-none _ _ _

pub places-preserved : goal.places-preserved
places-preserved g c = cuts-then _ _ _ _ _ _ _ c.places.invariant c.cut_at.ensures.cuts
