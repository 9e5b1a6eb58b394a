use Rattle.std.proofs.Common.{false, refl}
use Rattle.outwriter.proofs.Leads.{leads-nothing}
use Rattle.outwriter.proofs.out_core.OutCore.new.Goals as goal

pub returns-clause-leads : goal.returns-clause-leads
returns-clause-leads g c =
    leads-nothing g.L.Lane.got (record {
      is_dead = false;
      may_part = false;
      closed = false;
      is_leaving = false;
      has_probed = false;
      has_failed = false;
      sending = c.new.result;
    })
    refl refl c.new.ensures.mirrors c.new.ensures.senders c.new.ensures.spells c.new.ensures.due
    c.new.ensures.states
