use Rattle.std.proofs.Common.{◌≤◌, pos, ◌+ℤ◌, sym, ◌∙◌, subst}
use Rattle.std.specs.Prelude.{All}
use Rattle.std.specs.Map.{values_of}
use Rattle.sendwindows.specs.Windows.{Windows, FitsAt, Fits}
use Rattle.sendwindows.proofs.WindowSteps.{CanResize-fits, fits-CanResize}
use Rattle.sendwindows.proofs.Balances.{all_fit, some_over, FitsAt-looked_up, looked_up-FitsAt}
use Rattle.sendwindows.proofs.send_windows.SendWindows.initial.Goals as goal

pub returns-then-not-all_fit-clause-overflow : goal.returns-then-not-all_fit-clause-overflow
returns-then-not-all_fit-clause-overflow c =
    let over =
    some_over c.args.size (values_of c.self.inside.balances.entries)
    (sym c.all_fit.ensures.value ∙ c.if-not-all_fit.true) in
    subst (λ (w : Windows). FitsAt w c.args.size → ⊥) c.self.view_is
    (λ (fits : (c.args.size ≤ 2147483647)
    × All (λ b. Fits (pos c.args.size +ℤ b))
    (values_of c.self.inside.balances.entries)). over fits.1)

pub returns-then-not-all_fit-clause-cannot : goal.returns-then-not-all_fit-clause-cannot
returns-then-not-all_fit-clause-cannot c =
    let over =
    some_over c.args.size (values_of c.self.inside.balances.entries)
    (sym c.all_fit.ensures.value ∙ c.if-not-all_fit.true) in
    let old : Windows = record {
      connection = c.self.inside.shared.connection;
      initial = c.self.inside.shared.initial;
      balances = c.self.inside.balances.entries;
    } in
    rw (← c.self.view_is) (λ history follows can.
    over (looked_up-FitsAt old c.args.size c.all_fit.ensures.unique c.self.invariant.apart can.0
    (fits-CanResize history old follows c.args.size can)).1)

pub returns-clause-can : goal.returns-clause-can
returns-clause-can c =
    let fits : FitsAt c.args.self.now c.args.size =
    rw (← c.self.view_is) (
      c.if-size-gt-MAX_WINDOW.false,
      all_fit c.args.size (values_of c.self.inside.balances.entries)
          (sym c.all_fit.ensures.value ∙ c.if-not-all_fit.false),
    ) in
    λ history follows.
    CanResize-fits history c.args.self.now follows c.args.size fits.0
    (FitsAt-looked_up c.args.self.now c.args.size fits)
