use Rattle.std.proofs.Common.{arith, ℕ, get_or, List, ap}
use Rattle.zeros.proofs.zero_buffer.ZeroBuffer.new.Goals as goal

pub invariant_of-result : goal.invariant_of-result
invariant_of-result c = (
  omega arith,
  omega arith,
  omega arith,
  c.new-2.ensures 0,
  λ i outside. ap (λ (l : List ℕ). get_or l i 0) c.new.ensures.items,
)
