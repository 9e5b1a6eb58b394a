use Rattle.std.proofs.Common.{arith}
use Rattle.h2frame.proofs.Heads.{begins}
use Rattle.trace.proofs.cutter.head_of.Goals as goal

pub returns-clause-some : goal.returns-clause-some
returns-clause-some c =
    rw c.head_at.ensures
    (begins c.args.bytes.now c.if-bytes-lt-HEAD_LEN.false (λ i. omega (arith, c.type_inv.bytes i)))
