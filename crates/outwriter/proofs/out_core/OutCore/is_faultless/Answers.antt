use Rattle.std.proofs.Common.{◌∙◌, ap, sym, true≢false}
use Rattle.std.specs.Prelude.{not}
use Rattle.outwriter.proofs.Leads.{none-failed}
use Rattle.outwriter.proofs.out_core.OutCore.is_faultless.Goals as goal

pub returns-then-not-self-clause-none : goal.returns-then-not-self-clause-none
returns-then-not-self-clause-none g c = λ may.
    none-failed g.L.Lane.got c.args.self.now c.if-not-self.true may

pub returns-else-not-self-clause-none : goal.returns-else-not-self-clause-none
returns-else-not-self-clause-none g c = λ may.
    absurd (true≢false (sym may ∙ ap not c.if-not-self.false))
