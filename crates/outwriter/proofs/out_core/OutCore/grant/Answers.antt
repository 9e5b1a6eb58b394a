use Rattle.std.proofs.Common.{◌∙◌, sym, true≢false}
use Rattle.outwriter.proofs.Leads.{kept-granted, leads-granted}
use Rattle.outwriter.proofs.out_core.OutCore.grant.Goals as goal

pub returns-then-not-self-clause-leads : goal.returns-then-not-self-clause-leads
returns-then-not-self-clause-leads g c =
    leads-granted g.L.Lane.got c.args.self.now c.grant.new.self c.args.id c.args.n
    (λ alive.
    kept-granted c.args.id c.args.n c.args.self.now.sending.outbound c.grant.new.self
    c.grant.ensures.taken c.grant.ensures.takes)

pub returns-else-not-self-clause-leads : goal.returns-else-not-self-clause-leads
returns-else-not-self-clause-leads g c =
    leads-granted g.L.Lane.got c.args.self.now c.args.self.now.sending.outbound c.args.id c.args.n
    (λ alive. absurd (true≢false (sym c.if-not-self.false ∙ alive)))
