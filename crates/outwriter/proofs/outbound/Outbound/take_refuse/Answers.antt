use Rattle.std.proofs.Common.{refl, sym, subst, List, ◌∷◌}
use Rattle.std.proofs.lemmas.List.Elements.{All-nil}
use Rattle.outwriter.specs.declared.control.WriterOrder.TheVariants as order
use Rattle.outwriter.specs.declared.due.Due.{Due}
use Rattle.outwriter.specs.declared.due.Due.TheVariants as due_kind
use Rattle.outwriter.specs.RunState.{HasDue}
use Rattle.outwriter.specs.Steps.{Taken}
use Rattle.outwriter.proofs.RunStateSteps.{refuse-led, more-due, windows-still}
use Rattle.outwriter.proofs.outbound.Outbound.take_refuse.Goals as goal

pub returns-in-Ok-clause-taken : goal.returns-in-Ok-clause-taken
returns-in-Ok-clause-taken c = λ run m.
    windows-still (Taken (order.Refuse c.args.id c.args.fields) ∷ run) _ _
    c.args.self.now.states.windows c.hear.new.self.windows _ _ c.hear.new.self
    c.in-Ok.ensures.windows
    (refuse-led c.args.id c.args.fields run _ _ _ _ _ _ c.args.self.now.states c.hear.new.self
    c.in-Ok.ensures.over c.in-Ok.ensures.owed
    (subst (λ (xs : List Due). HasDue (Taken (order.Refuse c.args.id c.args.fields) ∷ run) xs)
    (sym c.push_back_reserved.ensures.items)
    (more-due (order.Refuse c.args.id c.args.fields) run c.args.self.now.due.items
    (due_kind.Refuse c.args.id c.args.fields) refl (All-nil _) m.answers)) m)
