use Rattle.std.proofs.Common.{◌∙◌, refl}
use Rattle.writerloop.proofs.WrittenInbox.{leads-here, leads-then}
use Rattle.writerloop.proofs.writing.Writing.warn.Goals as goal

pub returns-then-not-self : goal.returns-then-not-self
returns-then-not-self g c = record {
  leads =
      leads-then g.W.ConnWrite.contents g.W.ConnWrite.failed _ _ _ c.warn_by_goaway.ensures.leads
      c.warn_by_ping.ensures.leads;
  inbox = c.warn_by_ping.ensures.inbox ∙ c.warn_by_goaway.ensures.inbox;
}

pub returns-else-not-self : goal.returns-else-not-self
returns-else-not-self g c = record {
  leads = leads-here g.W.ConnWrite.contents g.W.ConnWrite.failed c.args.self.now;
  inbox = refl;
}
