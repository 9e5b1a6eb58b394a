use Rattle.device.proofs.BytesLemmas.{Appends-twice}
use Rattle.commands.proofs.server.run_self.Goals as goal

pub returns : goal.returns
returns g c = (
  c.in_ok-ended.ended.items,
  c.in_ok-outcomes.outcomes.items,
  c.passed_since-milliseconds.result,
  c.in_ok-ended.ensures.order,
  rw c.as_slice.ensures.value at c.in_ok-outcomes.ensures,
  Appends-twice _ _ _ _ _ c.in_ok-ended.ensures.lines
      (rw c.as_slice-2.ensures.value at c.in_ok-print_summary.ensures),
  rw c.as_slice-3.ensures.value at c.have_passed.ensures,
)
