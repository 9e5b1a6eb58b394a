use Rattle.std.proofs.Common.{[], refl, true}
use Rattle.outwriter.specs.declared.control.WriterOrder.TheVariants as order
use Rattle.outwriter.proofs.CallStepsOrders.{takes-nothing}
use Rattle.outwriter.proofs.Leads.{kept-plain, leads-taken, none-plain, unsaid-plain}
use Rattle.outwriter.proofs.RunStateSteps.{quiet-led}
use Rattle.outwriter.proofs.out_core.OutCore.control.Goals as goal

pub returns-in-InputEnded-clause-leads : goal.returns-in-InputEnded-clause-leads
returns-in-InputEnded-clause-leads g c = λ unused.
    let outbound = c.args.self.now.sending.outbound in
    leads-taken g.L.Lane.got c.args.self.now c.if-self.false outbound (λ run calls k. k) outbound
    c.args.self.now.closed c.args.self.now.is_leaving c.args.self.now.has_probed
    c.args.self.now.has_failed c.args.control order.InputEnded c.in-InputEnded.is refl
    (unsaid-plain order.InputEnded c.args.self.now.is_leaving c.args.self.now.has_probed
    c.args.self.now.has_failed refl refl refl)
    (kept-plain order.InputEnded [] outbound outbound tt none-plain
    (quiet-led order.InputEnded outbound refl (λ id. refl) (λ id. refl) (λ run history. refl))
    (takes-nothing outbound))

pub returns-in-Close-clause-leads : goal.returns-in-Close-clause-leads
returns-in-Close-clause-leads g c = λ unused.
    let outbound = c.args.self.now.sending.outbound in
    leads-taken g.L.Lane.got c.args.self.now c.if-self.false outbound (λ run calls k. k) outbound
    true c.args.self.now.is_leaving c.args.self.now.has_probed c.args.self.now.has_failed
    c.args.control order.Close c.in-Close.is refl
    (unsaid-plain order.Close c.args.self.now.is_leaving c.args.self.now.has_probed
    c.args.self.now.has_failed refl refl refl)
    (kept-plain order.Close [] outbound outbound tt none-plain
    (quiet-led order.Close outbound refl (λ id. refl) (λ id. refl) (λ run history. refl))
    (takes-nothing outbound))
