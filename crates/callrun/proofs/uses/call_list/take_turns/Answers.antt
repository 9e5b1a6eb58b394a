use Rattle.std.proofs.Common.{ℕ, List, refl, inl, ap, arith, rules, slice_get}
use Rattle.callbox.specs.InSides.{TakesMessages}
use Rattle.handlers.specs.Listed.{listed}
use Rattle.callrun.specs.Runs.{HasCome}
use Rattle.callrun.specs.Sides.{shown}
use Rattle.callrun.specs.Handlings.{lacks_memory}
use Rattle.callrun.proofs.Listing.{no_more, overdue_so, then_more}
use Rattle.callrun.proofs.Turns.{counts_on, left_closed, left_on}
use Rattle.callrun.proofs.uses.call_list.take_turns.Goals as goal

pub loop-had-init : goal.loop-had-init
loop-had-init g c = record {
  run = no_more _ _ _;
  in_name = refl;
  name = refl;
  same = (refl, refl, refl);
  overdue = λ is. inl is;
  stays = search rules;
  turns = (omega arith, λ below. omega arith);
  lefts = (omega arith, λ below. omega arith);
  left = λ is. inl is;
}

pub loop-had-preserved : goal.loop-had-preserved
loop-had-preserved g c = record {
  run =
      then_more _ _ _ _ (λ (messages : List (List ℕ)).
      TakesMessages (g.I.Lane.got c.turn-last.new.self.taker.rx)
      c.turn-last.new.self.taker.progress messages) _ _
      (λ method messages.
      HasCome ((goal.Method-dyn g (method.vtable, method.value)).answers method.value)
      ((goal.Method-dyn g (method.vtable, method.value)).stands method.value)
      c.turn-last.new.self.taker.progress.told messages c.turn-last.new.self.call
      c.turn-last.new.self.in_hand
      (shown (λ giver. g.O.Lane.put_in giver.tx) (λ s. g.O.Lane.put_shut s.shut)
      (λ s. g.O.Lane.was_placed s.shut) c.turn-last.new.self.response))
      (ap (λ (i : ℕ). slice_get (listed c.args.methods.now) i) c.loop-had.invariant.same.0)
      c.loop-had.invariant.run c.turn-last.ensures.run;
  in_name = search rules;
  name = search rules;
  same = search rules;
  overdue = λ is.
      overdue_so _ _ _ _ _ _ _ _ c.loop-had.invariant.same.2 c.next.ensures.stays
      c.in-Some.ensures.told c.loop-had.invariant.overdue c.turn-last.ensures.overdue is;
  stays = search rules;
  turns = counts_on _ _ _ _ _ c.loop-had.invariant.turns (c.in-Some.ensures.turns);
  lefts = counts_on _ _ _ _ _ c.loop-had.invariant.lefts c.in-Some.ensures.lefts;
  left =
      left_on _ _ _ _ _ _ _ (left_closed _) (λ closed.
      ap (λ run. lacks_memory run.call.handling.ending) (c.turn-last.ensures.stays_over closed).1)
      c.loop-had.invariant.left c.turn-last.ensures.left;
}

pub returns-then-matches-clause-run : goal.returns-then-matches-clause-run
returns-then-matches-clause-run g c =
    then_more _ _ _ _ (λ (messages : List (List ℕ)).
    TakesMessages (g.I.Lane.got c.turn-last.new.self.taker.rx)
    c.turn-last.new.self.taker.progress messages) _ _
    (λ method messages.
    HasCome ((goal.Method-dyn g (method.vtable, method.value)).answers method.value)
    ((goal.Method-dyn g (method.vtable, method.value)).stands method.value)
    c.turn-last.new.self.taker.progress.told messages c.turn-last.new.self.call
    c.turn-last.new.self.in_hand
    (shown (λ giver. g.O.Lane.put_in giver.tx) (λ s. g.O.Lane.put_shut s.shut)
    (λ s. g.O.Lane.was_placed s.shut) c.turn-last.new.self.response))
    (ap (λ (i : ℕ). slice_get (listed c.args.methods.now) i) c.loop-had.invariant.same.0)
    c.loop-had.invariant.run c.turn-last.ensures.run
