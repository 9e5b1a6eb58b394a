use Rattle.std.proofs.Common.{◌∙◌, ap, rules}
use Rattle.writerloop.proofs.WrittenInbox.{leads-then}
use Rattle.writerloop.proofs.writing.Writing.reset_left.Goals as goal

pub calls-init : goal.calls-init
calls-init g c =
    record { leads = c.look.ensures.stays.leads; kept = search rules; going = search rules }

pub calls-preserved : goal.calls-preserved
calls-preserved g c = record {
  leads =
      leads-then g.W.ConnWrite.contents g.W.ConnWrite.failed _ _ _ c.calls.invariant.leads
      c.reset_left_at.ensures.leads;
  kept = ap (λ inbox. inbox.has_lost) c.reset_left_at.ensures.inbox ∙ c.calls.invariant.kept;
  going = c.reset_left_at.ensures.input ∙ c.calls.invariant.going;
}
