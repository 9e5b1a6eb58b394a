use Rattle.std.proofs.Common.{arith}
use Rattle.h2frame.proofs.Fronts.{front_long}
use Rattle.h2frame.proofs.span.span_at.Goals as goal

pub returns-clause-front : goal.returns-clause-front
returns-clause-front c =
    rw (c.frame_at.ensures.frame, c.head_at.ensures) (front_long c.args.bytes.now
    c.if-bytes-lt-HEAD_LEN.false (λ i. omega (arith, c.type_inv.bytes i)))
