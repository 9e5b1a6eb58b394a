use Rattle.std.proofs.Common.{◌≡◌, ◌∙◌, ap, refl, rules, subst, sym}
use Rattle.writerloop.specs.declared.steps.WaitingOrder.{WaitingOrder}
use Rattle.writerloop.specs.declared.steps.WaitingOrder.TheVariants as waits
use Rattle.writerloop.specs.Written.{LeadsOn}
use Rattle.writerloop.proofs.WrittenInbox.{leads-then}
use Rattle.connection.proofs.writer.Writer.take_next.Goals as goal

-- what waits is an order, and of each kind but one it is known that it takes no window
without-window : {Fact : Type 0} (waiting : WaitingOrder) → (waiting ≡ waits.Nothing → ⊥)
    → (waiting ≡ waits.Other → Fact) → (waiting ≡ waits.Goaway → Fact)
    → (waiting ≡ waits.Window → ⊥) → Fact
without-window waits.Nothing some plain leaves not = absurd (some refl)
without-window waits.Window some plain leaves not = absurd (not refl)
without-window waits.Goaway some plain leaves not = leaves refl
without-window waits.Other some plain leaves not = plain refl

pub prepare-last-requires : goal.prepare-last-requires
prepare-last-requires g c = record {
  plain =
      without-window c.look-waiting.result (search rules) c.look-waiting.ensures.plain
      c.look-waiting.ensures.leaves;
}

pub returns-in-Nothing-clause-leads : goal.returns-in-Nothing-clause-leads
returns-in-Nothing-clause-leads g c =
    leads-then _ _ _ _ _
    (leads-then _ _ _ _ _ c.look-waiting.ensures.stays.leads c.prepare-last.ensures.leads)
    c.take_next.ensures.leads

pub returns-in-Early-clause-leads : goal.returns-in-Early-clause-leads
returns-in-Early-clause-leads g c =
    leads-then _ _ _ _ _
    (leads-then _ _ _ _ _ c.look-waiting.ensures.stays.leads c.prepare-last.ensures.leads)
    c.take_next.ensures.leads

pub returns-in-One-clause-leads : goal.returns-in-One-clause-leads
returns-in-One-clause-leads g c =
    leads-then _ _ _ _ _
    (leads-then _ _ _ _ _ c.look-waiting.ensures.stays.leads c.prepare-last.ensures.leads)
    c.take_next.ensures.leads

pub returns-in-Ends-clause-leads : goal.returns-in-Ends-clause-leads
returns-in-Ends-clause-leads g c =
    leads-then _ _ _ _ _
    (leads-then _ _ _ _ _ c.look-waiting.ensures.stays.leads c.prepare-last.ensures.leads)
    c.take_next.ensures.leads

pub returns-in-Stops-clause-leads : goal.returns-in-Stops-clause-leads
returns-in-Stops-clause-leads g c =
    subst
    (LeadsOn g.W.ConnWrite.contents g.W.ConnWrite.failed c.args.self.now.writing)
    (sym (ap (λ writer. writer.writing) c.stop.ensures.rest))
    (leads-then _ _ _ _ _
    (leads-then _ _ _ _ _ c.look-waiting.ensures.stays.leads c.prepare-last.ensures.leads)
    c.take_next.ensures.leads)

pub returns-in-Lost : goal.returns-in-Lost
returns-in-Lost g c = record {
  leads =
      leads-then _ _ _ _ _
      (leads-then _ _ _ _ _
      (leads-then _ _ _ _ _ c.look-waiting.ensures.stays.leads c.prepare-last.ensures.leads)
      c.take_next.ensures.leads) c.give_up.ensures.leads;
  outlet = c.give_up.ensures.outlet ∙ c.prepare-last.ensures.outlet;
}
