use Rattle.std.proofs.Common.{◌≡◌, List, [], ◌∷◌, arith, subst}
use Rattle.std.specs.Prelude.{OnErr, OnOk}
use Rattle.sendwindows.specs.WindowHistory.{CanCredit, Credit, Follows}
use Rattle.sendwindows.specs.WindowHistory.{Step as WindowStep}
use Rattle.sendwindows.specs.Windows.{CreditFault, Meets}
use Rattle.outwriter.specs.States.{Moves, SameButWindows, States, states_of}
use Rattle.outwriter.proofs.StateWindows.{
  credited,
  credited-stands,
  credited-unchanged,
  credited-within,
}
use Rattle.outwriter.proofs.states.StreamStates.credit.Goals as goal

pub invariant_of-self-2 : goal.invariant_of-self-2
invariant_of-self-2 c =
    credited-within c.self.inside.connection c.self.inside.window c.self.inside.streams.entries
    c.self.inside.owing c.args.id c.args.increment c.credit_of.result
    c.credit_of.new.streams.entries c.credit_of.ensures c.self.invariant

pub returns-clause-rest : goal.returns-clause-rest
returns-clause-rest c =
    subst (λ (o : States).
    SameButWindows o (states_of c.self.inside.connection c.self.inside.window
    c.credit_of.new.streams.entries)) c.self.view_is
    (credited-stands c.self.inside.connection c.self.inside.window c.self.inside.streams.entries
    c.self.inside.owing c.args.id c.args.increment c.credit_of.result
    c.credit_of.new.streams.entries c.credit_of.ensures)

pub returns-clause-fault : goal.returns-clause-fault
returns-clause-fault c =
    subst (λ (o : States).
    Meets (CreditFault o.windows c.args.id c.args.increment) c.credit_of.result) c.self.view_is
    (credited c.self.inside.connection c.self.inside.window c.self.inside.streams.entries
    c.self.inside.owing c.args.id c.args.increment c.credit_of.result
    c.credit_of.new.streams.entries c.credit_of.ensures (omega (arith, c.if-id-eq0.false))).0

pub returns-clause-windows : goal.returns-clause-windows
returns-clause-windows c =
    subst (λ (o : States).
    OnOk c.credit_of.result (Moves o (Credit c.args.id c.args.increment ∷ [])
    (states_of c.self.inside.connection c.self.inside.window
    c.credit_of.new.streams.entries))) c.self.view_is
    (credited c.self.inside.connection c.self.inside.window c.self.inside.streams.entries
    c.self.inside.owing c.args.id c.args.increment c.credit_of.result
    c.credit_of.new.streams.entries c.credit_of.ensures (omega (arith, c.if-id-eq0.false))).1

pub returns-clause-can : goal.returns-clause-can
returns-clause-can c =
    subst (λ (o : States).
    OnOk c.credit_of.result ((history : List WindowStep) → Follows history o.windows
    → CanCredit history c.args.id c.args.increment)) c.self.view_is
    (credited c.self.inside.connection c.self.inside.window c.self.inside.streams.entries
    c.self.inside.owing c.args.id c.args.increment c.credit_of.result
    c.credit_of.new.streams.entries c.credit_of.ensures (omega (arith, c.if-id-eq0.false))).2

pub returns-clause-cannot : goal.returns-clause-cannot
returns-clause-cannot c =
    subst (λ (o : States).
    OnErr c.credit_of.result ((history : List WindowStep) → Follows history o.windows
    → ¬ CanCredit history c.args.id c.args.increment)) c.self.view_is
    (credited c.self.inside.connection c.self.inside.window c.self.inside.streams.entries
    c.self.inside.owing c.args.id c.args.increment c.credit_of.result
    c.credit_of.new.streams.entries c.credit_of.ensures (omega (arith, c.if-id-eq0.false))).3

pub returns-clause-unchanged : goal.returns-clause-unchanged
returns-clause-unchanged c =
    subst (λ (o : States).
    OnErr c.credit_of.result
    ((states_of c.self.inside.connection c.self.inside.window c.credit_of.new.streams.entries)
    ≡ o)) c.self.view_is
    (credited-unchanged c.self.inside.connection c.self.inside.window c.self.inside.streams.entries
    c.self.inside.owing c.args.id c.args.increment c.credit_of.result
    c.credit_of.new.streams.entries c.credit_of.ensures)
