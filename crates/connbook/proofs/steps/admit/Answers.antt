use Rattle.std.proofs.Common.{arith}
use Rattle.connbook.proofs.AdmitLemmas.{admits, on_err, on_ok}
use Rattle.connbook.proofs.steps.admit.Goals as goal

pub returns-clause-cause : goal.returns-clause-cause
returns-clause-cause c =
    rw c.admission_of.ensures (admits c.args.book.now c.args.id
    (omega (arith, c.if-id-eq0.false), omega (arith, c.last.ensures.last, c.if-id-last.false))
    c.admit.result c.admit.ensures.fault)

pub returns-clause-value : goal.returns-clause-value
returns-clause-value c = rw c.admission_of.ensures (on_ok _ c.admit.result c.admit.ensures.ok)

pub returns-clause-unchanged : goal.returns-clause-unchanged
returns-clause-unchanged c =
    rw c.admission_of.ensures (on_err _ c.admit.result c.admit.ensures.unchanged)
