use Rattle.std.proofs.Common.{inl, refl}
use Rattle.writerloop.proofs.WrittenInbox.{leads-here}
use Rattle.writerloop.proofs.writing.Writing.warn_by_goaway.Goals as goal

pub warn_by-requires-clause-warns : goal.warn_by-requires-clause-warns
warn_by-requires-clause-warns g c = λ before run wrote.
    inl (refl, c.may_leave.ensures.unsaid c.if-may_leave.true before run wrote)

pub returns-else-may_leave-clause-leads : goal.returns-else-may_leave-clause-leads
returns-else-may_leave-clause-leads g c =
    leads-here g.W.ConnWrite.contents g.W.ConnWrite.failed c.args.self.now
