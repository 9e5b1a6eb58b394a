use Rattle.std.proofs.Common.{◌≤◌, sym, ap, subst, ◌∙◌, Some}
use Rattle.std.proofs.lemmas.List.Elements.{All-weaker}
use Rattle.outwriter.specs.States.{States}
use Rattle.sendwindows.specs.WindowHistory.{CanResize}
use Rattle.outwriter.specs.Histories.{window_sizes}
use Rattle.outwriter.specs.Resizes.{FitsOn, IsSeen}
use Rattle.outwriter.proofs.ResizeLemmas.{
  last-below,
  FitsOn-smaller,
  CanResize-smaller,
  all_resized,
}
use Rattle.outwriter.proofs.resize.resize.Goals as goal

pub returns-in_err-initial-2-clause-unchanged : goal.returns-in_err-initial-2-clause-unchanged
returns-in_err-initial-2-clause-unchanged c =
    let seen : IsSeen (window_sizes c.args.settings.now) c.sizes-greatest.result.0
    (Some c.in-Some.size) = rw c.in-Some.is at c.sizes-greatest.ensures in
    let below : c.in-Some.size ≤ c.sizes-greatest.result.0 =
    last-below (window_sizes c.args.settings.now) c.sizes-greatest.result.0 c.in-Some.size seen in
    absurd (c.in_err-initial-2.ensures.overflow
    (subst (λ (s : States). FitsOn s.windows c.in-Some.size) (sym c.in_ok-initial.ensures.ok)
    (FitsOn-smaller c.args.states.now.windows c.sizes-greatest.result.0 c.in-Some.size below
    c.in_ok-initial.ensures.fits)))

pub returns-clause-fits : goal.returns-clause-fits
returns-clause-fits c = λ history follows.
    let seen : IsSeen (window_sizes c.args.settings.now) c.sizes-greatest.result.0
    (Some c.in-Some.size) = rw c.in-Some.is at c.sizes-greatest.ensures in
    All-weaker (λ s. s ≤ c.sizes-greatest.result.0) (CanResize history)
    (λ s below.
    CanResize-smaller history c.sizes-greatest.result.0 s below
    (c.in_ok-initial.ensures.can history follows)) (window_sizes c.args.settings.now) seen.1

pub returns-clause-windows : goal.returns-clause-windows
returns-clause-windows c = λ history follows.
    let seen : IsSeen (window_sizes c.args.settings.now) c.sizes-greatest.result.0
    (Some c.in-Some.size) = rw c.in-Some.is at c.sizes-greatest.ensures in
    all_resized history c.args.states.now.windows c.initial-2.new.self.windows c.in-Some.size
    (window_sizes c.args.settings.now) seen.0.0 seen.0.1 follows
    (ap (λ (s : States). s.windows) c.in_ok-initial-2.ensures.ok
    ∙ ap (λ (s : States). record s.windows { initial = c.in-Some.size }) c.in_ok-initial.ensures.ok)
