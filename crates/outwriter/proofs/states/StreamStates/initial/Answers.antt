use Rattle.std.proofs.Common.{◌∙◌, List, subst, sym}
use Rattle.sendwindows.specs.WindowHistory.{CanResize, Follows}
use Rattle.sendwindows.specs.WindowHistory.{Step as WindowStep}
use Rattle.outwriter.specs.Resizes.{FitsOn}
use Rattle.outwriter.specs.States.{States, windows_of}
use Rattle.outwriter.proofs.BalanceLemmas.{all-fit, can-resize, cannot-resize, some-over}
use Rattle.outwriter.proofs.states.StreamStates.initial.Goals as goal

pub returns-then-not-all_fit-clause-overflow : goal.returns-then-not-all_fit-clause-overflow
returns-then-not-all_fit-clause-overflow c =
    subst (λ (o : States). ¬ FitsOn o.windows c.args.size) c.self.view_is
    (some-over c.self.inside.window c.self.inside.streams.entries c.args.size
    c.all_fit.ensures.unique c.self.invariant.apart
    (sym c.all_fit.ensures.value ∙ c.if-not-all_fit.true))

pub returns-then-not-all_fit-clause-cannot : goal.returns-then-not-all_fit-clause-cannot
returns-then-not-all_fit-clause-cannot c =
    subst (λ (o : States).
    (history : List WindowStep) → Follows history o.windows
    → ¬ CanResize history c.args.size) c.self.view_is
    (cannot-resize (windows_of c.self.inside.window c.self.inside.streams.entries) c.args.size
    (some-over c.self.inside.window c.self.inside.streams.entries c.args.size
    c.all_fit.ensures.unique c.self.invariant.apart
    (sym c.all_fit.ensures.value ∙ c.if-not-all_fit.true)))

pub returns-clause-fits : goal.returns-clause-fits
returns-clause-fits c = subst (λ (o : States). FitsOn o.windows c.args.size) c.self.view_is
    (all-fit c.self.inside.window c.self.inside.streams.entries c.args.size
    c.if-size-gt-MAX_WINDOW.false (sym c.all_fit.ensures.value ∙ c.if-not-all_fit.false))

pub returns-clause-can : goal.returns-clause-can
returns-clause-can c =
    subst (λ (o : States).
    (history : List WindowStep) → Follows history o.windows
    → CanResize history c.args.size) c.self.view_is
    (can-resize (windows_of c.self.inside.window c.self.inside.streams.entries) c.args.size
    (all-fit c.self.inside.window c.self.inside.streams.entries c.args.size
    c.if-size-gt-MAX_WINDOW.false (sym c.all_fit.ensures.value ∙ c.if-not-all_fit.false)))
