use Rattle.std.proofs.Common.{◌≡◌, None, subst}
use Rattle.std.specs.Prelude.{OnOk}
use Rattle.outwriter.specs.States.{
  BecomesOpen,
  Moves,
  PutsAfter,
  SameOpen,
  States,
  states_of,
  steps_of,
}
use Rattle.outwriter.proofs.StateChanges.{
  change-becomes,
  change-moves,
  change-puts,
  change-same,
  changed-within,
  on-ok,
}
use Rattle.outwriter.proofs.states.StreamStates.change.Goals as goal

pub invariant_of-self : goal.invariant_of-self
invariant_of-self c =
    changed-within c.self.inside.connection c.self.inside.window c.self.inside.streams.entries
    c.self.inside.owing c.args.id c.args.change c.args.opened c.change_of.result
    c.change_of.new.streams.entries c.self.invariant c.requires.stream c.requires.number
    c.change_of.ensures.changes c.change_of.ensures.unchanged

pub returns-clause-puts : goal.returns-clause-puts
returns-clause-puts c =
    subst (λ (o : States).
    OnOk c.change_of.result (PutsAfter c.args.change o c.args.id (states_of
    c.self.inside.connection c.self.inside.window
    c.change_of.new.streams.entries))) c.self.view_is
    (on-ok c.change_of.result _ _ (change-puts c.self.inside.connection c.self.inside.window
    c.self.inside.streams.entries c.args.id c.args.change c.args.opened
    c.change_of.new.streams.entries) c.change_of.ensures.changes)

pub returns-clause-becomes : goal.returns-clause-becomes
returns-clause-becomes c =
    subst (λ (o : States).
    OnOk c.change_of.result (BecomesOpen o c.args.id c.args.opened (states_of
    c.self.inside.connection c.self.inside.window
    c.change_of.new.streams.entries))) c.self.view_is
    (on-ok c.change_of.result _ _ (change-becomes c.self.inside.connection c.self.inside.window
    c.self.inside.streams.entries c.args.id c.args.change c.args.opened
    c.change_of.new.streams.entries) c.change_of.ensures.changes)

pub returns-clause-open : goal.returns-clause-open
returns-clause-open c =
    subst (λ (o : States).
    OnOk c.change_of.result (c.args.opened ≡ None
    → SameOpen o (states_of c.self.inside.connection c.self.inside.window
    c.change_of.new.streams.entries))) c.self.view_is
    (on-ok c.change_of.result _ _ (change-same c.self.inside.connection c.self.inside.window
    c.self.inside.streams.entries c.args.id c.args.change c.args.opened
    c.change_of.new.streams.entries) c.change_of.ensures.changes)

pub returns-clause-windows : goal.returns-clause-windows
returns-clause-windows c =
    subst (λ (o : States).
    OnOk c.change_of.result (Moves o (steps_of c.args.change o c.args.id)
    (states_of c.self.inside.connection c.self.inside.window
    c.change_of.new.streams.entries))) c.self.view_is
    (on-ok c.change_of.result _ _ (change-moves c.self.inside.connection c.self.inside.window
    c.self.inside.streams.entries c.args.id c.args.change c.args.opened
    c.change_of.new.streams.entries) c.change_of.ensures.changes)
