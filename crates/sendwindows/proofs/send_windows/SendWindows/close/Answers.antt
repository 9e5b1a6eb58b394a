use Rattle.std.proofs.Common.{nat_eq}
use Rattle.std.specs.Map.{lookup}
use Rattle.limits.proofs.Entries.{apart-taken}
use Rattle.sendwindows.specs.Windows.{IsBalance}
use Rattle.sendwindows.proofs.Balances.{all-remove}
use Rattle.sendwindows.proofs.send_windows.SendWindows.close.Goals as goal

pub invariant_of-self : goal.invariant_of-self
invariant_of-self c = record {
  connection_fits = c.self.invariant.connection_fits;
  initial_fits = c.self.invariant.initial_fits;
  each =
      rw c.shift_remove.ensures.entries (all-remove (IsBalance c.self.inside.shared.initial)
      c.self.inside.balances.entries c.args.id c.self.invariant.each);
  apart =
      apart-taken (nat_eq c.args.id 0) (lookup (nat_eq 0) c.self.inside.balances.entries) _
      (c.shift_remove.ensures.updates.0 0) c.self.invariant.apart;
}

pub returns-clause-law : goal.returns-clause-law
returns-clause-law c = invariant_of-self c
