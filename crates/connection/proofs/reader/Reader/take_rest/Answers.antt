use Rattle.std.proofs.Common.{◌∙◌, refl}
use Rattle.connection.proofs.Resting.{carries-first, carries-less}
use Rattle.connection.proofs.reader.Reader.take_rest.Goals as goal

pub senders-init : goal.senders-init
senders-init g c = (refl, refl, refl, λ sent carries. carries, λ sent told carries reads. reads)

pub senders-preserved : goal.senders-preserved
senders-preserved g c = (
  c.in-Some-next.ensures.way ∙ c.senders.invariant.0,
  c.take_back.ensures.home ∙ c.senders.invariant.1,
  c.senders.invariant.2,
  λ sent carries.
      carries-less sent _ _ _ c.in-Some-next.ensures.some (c.senders.invariant.3 sent carries),
  λ sent told carries reads.
      c.take_back.ensures.stays sent told (carries-first sent _ _ _ c.in-Some-next.ensures.some
      (c.senders.invariant.3 sent carries)) (c.senders.invariant.4 sent told carries reads),
)
