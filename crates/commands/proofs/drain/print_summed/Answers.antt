use Rattle.device.proofs.BytesLemmas.{Appends-twice}
use Rattle.commands.proofs.drain.print_summed.Goals as goal

pub returns : goal.returns
returns g c = (
  c.in_ok-outcome.outcome,
  rw c.err.ensures.value at c.in_ok-outcome.ensures,
  Appends-twice _ _ _ _ _ c.in_ok-print_drain.ensures c.in_ok-print_summary.ensures,
)
