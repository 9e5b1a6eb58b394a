use Rattle.std.proofs.Common.{
  ◌≡◌,
  refl,
  sym,
  subst,
  inl,
  ℕ,
  ◌∙◌,
  true,
  false,
  true≢false,
  List,
  [],
  ◌∷◌,
  arith,
}
use Rattle.std.proofs.lemmas.List.Elements.{All-nil, All-cons}
use Rattle.h2frame.specs.declared.error_code.ErrorCode.{ErrorCode}
use Rattle.outwriter.specs.declared.control.WriterOrder.TheVariants as order
use Rattle.outwriter.specs.declared.due.Due.{Due}
use Rattle.outwriter.specs.declared.due.Due.TheVariants as due_kind
use Rattle.outwriter.specs.Histories.{is_stream}
use Rattle.outwriter.specs.RunState.{HasDue}
use Rattle.outwriter.specs.Runs.{Asks, IsAsked}
use Rattle.outwriter.specs.States.{is_reset}
use Rattle.outwriter.specs.Steps.{Order, Taken}
use Rattle.outwriter.proofs.RunStateSteps.{reset-led, more-due, same-due}
use Rattle.outwriter.proofs.WindowRuns.{reset-taken}
use Rattle.outwriter.proofs.outbound.Outbound.take_reset.Goals.{then-written, else-written}
use Rattle.outwriter.proofs.outbound.Outbound.take_reset.Goals as goal

pub returns-then-is_due-clause-taken : goal.returns-then-is_due-clause-taken
returns-then-is_due-clause-taken c = λ run m.
    let reset : Order = order.Reset c.args.id c.args.code c.args.written in
    let P : ℕ × ErrorCode → Type 0 = λ asked. IsAsked asked.0 asked.1 (Taken reset ∷ run) in
    let first : (c.args.written ≡ true) × (is_reset c.args.self.now.states c.args.id ≡ false)
    × (is_stream c.args.id ≡ true) = elim c.if-written.branch [
      | then-written w ↦
          let may = sym w.is_due-is ∙ c.if-is_due.true in
          (w.if-written.true, grind (arith, w, may), grind (arith, w, may))
      | else-written w ↦
          absurd (true≢false (sym c.if-is_due.true ∙ w.is_due-is ∙ w.if-written.false))
    ] in
    reset-led c.args.id c.args.code c.args.written run _ _ _ _ _ _ _ c.args.self.now.states
    c.reset_state.new.states c.in_ok-reset_state.ensures.owed c.in_ok-reset_state.ensures.pays
    c.in_ok-reset_state.ensures.known c.in_ok-reset_state.ensures.resets
    c.in_ok-reset_state.ensures.over
    (reset-taken run c.args.id c.args.code c.args.written c.args.self.now.states.windows
    c.reset_state.new.states.windows c.in_ok-reset_state.ensures.windows m.windows_follow)
    (subst (λ (xs : List Due). HasDue (Taken reset ∷ run) xs)
    (sym c.push_back_reserved.ensures.items)
    (more-due reset run c.args.self.now.due.items (due_kind.Reset c.args.id c.args.code) refl
    (All-cons P (c.args.id, c.args.code) [] (inl (
      subst (λ b. Asks c.args.id c.args.code (order.Reset c.args.id c.args.code b))
          (sym first.0) (refl, refl),
      sym (m.stand.resets c.args.id first.2) ∙ first.1,
    )) (All-nil P))
    m.answers)) m

pub returns-else-is_due-clause-taken : goal.returns-else-is_due-clause-taken
returns-else-is_due-clause-taken c = λ run m.
    let reset : Order = order.Reset c.args.id c.args.code c.args.written in
    reset-led c.args.id c.args.code c.args.written run _ _ _ _ _ _ _ c.args.self.now.states
    c.reset_state.new.states c.in_ok-reset_state.ensures.owed c.in_ok-reset_state.ensures.pays
    c.in_ok-reset_state.ensures.known c.in_ok-reset_state.ensures.resets
    c.in_ok-reset_state.ensures.over
    (reset-taken run c.args.id c.args.code c.args.written c.args.self.now.states.windows
    c.reset_state.new.states.windows c.in_ok-reset_state.ensures.windows m.windows_follow)
    (same-due reset run c.args.self.now.due.items refl m.answers) m
