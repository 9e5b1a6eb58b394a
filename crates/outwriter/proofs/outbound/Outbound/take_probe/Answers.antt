use Rattle.std.proofs.Common.{refl, sym, subst, List, ◌∷◌}
use Rattle.std.proofs.lemmas.List.Elements.{All-nil}
use Rattle.outwriter.specs.declared.control.WriterOrder.TheVariants as order
use Rattle.outwriter.specs.declared.due.Due.{Due}
use Rattle.outwriter.specs.declared.due.Due.TheVariants as due_kind
use Rattle.outwriter.specs.RunState.{HasDue}
use Rattle.outwriter.specs.Steps.{Taken}
use Rattle.outwriter.proofs.RunStateSteps.{taken, more-due, quiet-stand}
use Rattle.outwriter.proofs.WindowRuns.{nothing-taken}
use Rattle.outwriter.proofs.outbound.Outbound.take_probe.Goals as goal

pub returns-clause-taken : goal.returns-clause-taken
returns-clause-taken c = λ run m.
    taken (order.Probe c.args.bytes) run _ _ _ _ _ _ _ _ m (nothing-taken run
    (order.Probe c.args.bytes) c.args.self.now.states.windows (λ h. refl) m.windows_follow)
    (subst (λ (xs : List Due). HasDue (Taken (order.Probe c.args.bytes) ∷ run) xs)
    (sym c.push_back_reserved.ensures.items)
    (more-due (order.Probe c.args.bytes) run c.args.self.now.due.items (due_kind.Ping c.args.bytes)
    refl (All-nil _) m.answers))
    (quiet-stand _ run _ (λ id. refl) (λ id. refl) m.stand)
