use Rattle.std.proofs.Common.{inr, refl}
use Rattle.writerloop.proofs.WrittenInbox.{leads-here}
use Rattle.writerloop.proofs.writing.Writing.warn_by_ping.Goals as goal

pub warn_by-requires-clause-warns : goal.warn_by-requires-clause-warns
warn_by-requires-clause-warns g c = λ before run wrote.
    inr (refl, c.may_probe.ensures.unsaid c.if-may_probe.true before run wrote)

pub returns-else-may_probe-clause-leads : goal.returns-else-may_probe-clause-leads
returns-else-may_probe-clause-leads g c =
    leads-here g.W.ConnWrite.contents g.W.ConnWrite.failed c.args.self.now
