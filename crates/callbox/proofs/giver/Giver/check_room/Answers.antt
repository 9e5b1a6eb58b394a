use Rattle.std.proofs.Common.{sym, ap, subst, ◌∙◌}
use Rattle.account.specs.Accounts.{IsResponse}
use Rattle.callbox.specs.OutSides.{has_end, has_head}
use Rattle.callbox.proofs.giver.Giver.check_room.Goals as goal

pub invariant_of-self : goal.invariant_of-self
invariant_of-self g c =
    let old = c.args.self.now in
    let same = c.check_room.ensures.unchanged in
    record {
      begins = old.begins ∙ ap has_head (sym same);
      response = subst IsResponse (sym same) old.response;
      unshut = ap has_end same ∙ old.unshut;
    }
