use Rattle.std.proofs.Common.{◌∙◌, ap, sym, true≢false}
use Rattle.std.specs.Prelude.{not}
use Rattle.outwriter.proofs.Leads.{none-goaway}
use Rattle.outwriter.proofs.out_core.OutCore.may_leave.Goals as goal

pub returns-then-not-self-clause-unsaid : goal.returns-then-not-self-clause-unsaid
returns-then-not-self-clause-unsaid g c = λ may.
    none-goaway g.L.Lane.got c.args.self.now c.if-not-self.true may

pub returns-else-not-self-clause-unsaid : goal.returns-else-not-self-clause-unsaid
returns-else-not-self-clause-unsaid g c = λ may.
    absurd (true≢false (sym may ∙ ap not c.if-not-self.false))
