use Rattle.std.proofs.Common.{◌≡◌, ap, None, pos, arith, rules, ◌∙◌, refl, ◌++◌, ◌∷◌, [], nat_eq}
use Rattle.std.proofs.lemmas.Int.{ints}
use Rattle.std.specs.Map.{lookup}
use Rattle.indexmap.proofs.CallerLemmas.{insert_entry-new}
use Rattle.sendwindows.specs.Windows.{IsBalance}
use Rattle.limits.proofs.Entries.{apart-push}
use Rattle.sendwindows.proofs.Balances.{all-push}
use Rattle.sendwindows.proofs.send_windows.SendWindows.open.Goals as goal

pub invariant_of-self-2 : goal.invariant_of-self-2
invariant_of-self-2 c =
    let none : lookup (nat_eq c.args.id) c.self.inside.balances.entries ≡ None = search rules in
    let new : c.insert.new.self.entries ≡ c.self.inside.balances.entries
    ++ (c.args.id, pos 0) ∷ [] =
    c.in_ok-insert.ensures.entries
    ∙ insert_entry-new nat_eq c.self.inside.balances c.args.id c.new.result none
    ∙ ap (λ b. c.self.inside.balances.entries ++ (c.args.id, b) ∷ []) c.new.ensures in
    record {
      connection_fits = c.self.invariant.connection_fits;
      initial_fits = c.self.invariant.initial_fits;
      each =
          rw new (all-push (IsBalance c.self.inside.shared.initial) c.self.inside.balances.entries
          c.args.id (pos 0) c.self.invariant.each
          (omega (arith, ints, c.self.invariant.initial_fits), omega (arith, ints)));
      apart =
          rw new (apart-push c.args.id (pos 0) c.self.inside.balances.entries c.requires.stream
          c.self.invariant.apart);
    }

pub returns-clause-ok : goal.returns-clause-ok
returns-clause-ok c =
    let none : lookup (nat_eq c.args.id) c.self.inside.balances.entries ≡ None = search rules in
    let new : c.insert.new.self.entries ≡ c.self.inside.balances.entries
    ++ (c.args.id, pos 0) ∷ [] =
    c.in_ok-insert.ensures.entries
    ∙ insert_entry-new nat_eq c.self.inside.balances c.args.id c.new.result none
    ∙ ap (λ b. c.self.inside.balances.entries ++ (c.args.id, b) ∷ []) c.new.ensures in
    rw (new, ← c.self.view_is) refl

pub returns-clause-law : goal.returns-clause-law
returns-clause-law c = invariant_of-self-2 c
