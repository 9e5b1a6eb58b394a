use Rattle.std.proofs.Common.{rules, ◌≡◌, List, Option, refl, sym, subst}
use Rattle.std.specs.Prelude.{IfNone, [], ◌∷◌}
use Rattle.h2frame.specs.declared.frame.Frame.{Frame}
use Rattle.outwriter.specs.declared.due.Due.{Due}
use Rattle.outwriter.specs.declared.outbound.Outbound.{Outbound}
use Rattle.outwriter.specs.RunState.{Mirrors, MirrorsOf, WritesOrSkips}
use Rattle.outwriter.specs.CallState.{AreOver, Rests}
use Rattle.outwriter.specs.ToldByNow.{OwnOfDue}
use Rattle.outwriter.proofs.RunStateSteps.{skipped}
use Rattle.outwriter.proofs.TellStepsOwn.{due-first, dropped-rests, rests-rests}
use Rattle.outwriter.proofs.outbound.Outbound.due_frame.Goals as goal

pub returns-in-Some-2-clause-own : goal.returns-in-Some-2-clause-own
returns-in-Some-2-clause-own c =
    let popped : Outbound = record c.loop-due.self { due = c.pop_front.new.self } in
    due-first c.args.self.now c.loop-due.self popped c.frame_of_due.new.self
    c.in-Some.due c.in-Some-2.frame
    c.loop-due.invariant.rests c.in-Some.ensures.items refl
    (subst (λ (o : Option Frame). OwnOfDue c.in-Some.due o popped c.frame_of_due.new.self)
    c.in-Some-2.is c.in_ok-frame.ensures.own)

pub loop-due-preserved : goal.loop-due-preserved
loop-due-preserved c =
    let popped : Outbound = record c.loop-due.self { due = c.pop_front.new.self } in
    let same : c.frame_of_due.new.self ≡ popped =
    subst (λ (o : Option Frame). OwnOfDue c.in-Some.due o popped c.frame_of_due.new.self)
    c.in_default-2.is c.in_ok-frame.ensures.own in
    let skips =
    subst (λ (o : Option Frame). WritesOrSkips c.in-Some.due o popped c.frame_of_due.new.self)
    c.in_default-2.is c.in_ok-frame.ensures.written in
    record {
      between = search rules;
      mirrors = λ run m. subst (MirrorsOf run) (sym same)
          (skipped run popped.begun popped.gone popped.states.windows c.in-Some.due popped.due.items
          popped.block popped.states skips.0
          (subst (λ (waiting : List Due).
          Mirrors run popped.begun popped.gone popped.states.windows waiting popped.block
          popped.states) c.in-Some.ensures.items
          (c.loop-due.invariant.mirrors run m)));
      rests =
          rests-rests c.args.self.now c.loop-due.self c.frame_of_due.new.self
          c.loop-due.invariant.rests
          (subst (λ (o : Outbound). Rests c.loop-due.self o) (sym same)
          (dropped-rests c.loop-due.self popped c.in-Some.due c.in-Some.ensures.items refl
          (subst (λ (o : Option Frame). IfNone o (AreOver popped (c.in-Some.due ∷ [])))
          c.in_default-2.is c.in_ok-frame.ensures.dropped)));
    }
