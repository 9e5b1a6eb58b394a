use Rattle.std.proofs.Common.{◌≡◌, ◌∙◌, ◌+◌, ℕ, true, false, Vec, Global, ap, arith, subst, sym}
use Rattle.std.proofs.lemmas.Bool.{eqb-true}
use Rattle.results.specs.Choices.{IsPlace}
use Rattle.results.proofs.PlaceLemmas.{
  HasPlaces,
  all_places,
  no_more,
  no_place_here,
  no_places,
  none_left,
  one_more,
  place_here,
}
use Rattle.results.proofs.choice.chosen.Goals as goal
use Rattle.results.proofs.choice.chosen.Goals.{then-has+in_ok-push, else-has}

pub loop-place-init : goal.loop-place-init
loop-place-init c =
    subst (HasPlaces (IsPlace c.args.entries.now c.args.choice) 0) (sym c.new-places.ensures.items)
    (no_places (IsPlace c.args.entries.now c.args.choice))

pub loop-place-preserved : goal.loop-place-preserved
loop-place-preserved c = elim c.if-has.branch [
  | then-has+in_ok-push w ↦
      subst (HasPlaces (IsPlace c.args.entries.now c.args.choice) (c.loop-place.place + 1))
      (sym (ap (λ (kept : Vec ℕ Global). kept.items) w.places-is ∙ w.in_ok-push.ensures.items))
      (one_more (IsPlace c.args.entries.now c.args.choice) c.loop-place.place
      c.loop-place.places.items c.loop-place.invariant
      (place_here c.args.entries.now c.args.choice c.loop-place.place _ c.loop-place-test.true
      (c.has.ensures.0 w.if-has.true)))
  | else-has w ↦
      subst (HasPlaces (IsPlace c.args.entries.now c.args.choice) (c.loop-place.place + 1))
      (sym (ap (λ (kept : Vec ℕ Global). kept.items) w.places-is))
      (no_more (IsPlace c.args.entries.now c.args.choice) c.loop-place.place
      c.loop-place.places.items c.loop-place.invariant
      (no_place_here c.args.entries.now c.args.choice c.loop-place.place _
      (λ is. let bad : true ≡ false = sym (c.has.ensures.1 is) ∙ w.if-has.false in cc)))
]

pub returns-then-is_empty-clause-refused : goal.returns-then-is_empty-clause-refused
returns-then-is_empty-clause-refused c =
    none_left c.args.entries.now c.args.choice c.loop-place.place c.loop-place.places.items
    (omega arith) c.loop-place.invariant
    (omega
    (arith, c.loop-place.places.ok.0, eqb-true _ _ (sym c.is_empty.ensures ∙ c.if-is_empty.true)))

pub returns-clause-places : goal.returns-clause-places
returns-clause-places c =
    all_places c.args.entries.now c.args.choice c.loop-place.place c.loop-place.places.items
    (omega arith) c.loop-place.invariant
