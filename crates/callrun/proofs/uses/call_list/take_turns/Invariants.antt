use Rattle.std.proofs.Common.{◌≡◌, ◌≤◌, ◌++◌, ◌⊎◌, ℕ, List, true, false}
use Rattle.std.specs.Prelude.{IfSome, IsSomeAnd, slice_get}
use Rattle.callbox.specs.InSides.{TakesMessages}
use Rattle.handlers.specs.Listed.{listed}
use Rattle.callrun.specs.Runs.{HasCome}
use Rattle.callrun.specs.Handlings.{lacks_memory}
use Rattle.callrun.specs.Listings.{CountsOn}
use Rattle.callrun.specs.Sides.{is_left, name_by, shown}
use Rattle.callrun.proofs.uses.call_list.take_turns.Given as goal

-- what a turn promises, of all turns so far
abbrev pub invariant-loop-had : goal.invariant-loop-had
invariant-loop-had g l =
    record {
      run :
          IfSome (slice_get (listed l.methods) l.fn.run.index) (λ method. (messages : List (List ℕ))
          → TakesMessages (g.I.Lane.got l.fn.run.taker.rx) l.fn.run.taker.progress messages
          → HasCome ((goal.Method-dyn g (method.vtable, method.value)).answers method.value)
          ((goal.Method-dyn g (method.vtable, method.value)).stands method.value)
          l.fn.run.taker.progress.told messages l.fn.run.call l.fn.run.in_hand
          (shown (λ giver. g.O.Lane.put_in giver.tx) (λ s. g.O.Lane.put_shut s.shut)
          (λ s. g.O.Lane.was_placed s.shut) l.fn.run.response)
          → (more : List (List ℕ))
          × TakesMessages (g.I.Lane.got l.run.taker.rx) l.run.taker.progress (messages ++ more)
          × HasCome ((goal.Method-dyn g (method.vtable, method.value)).answers method.value)
          ((goal.Method-dyn g (method.vtable, method.value)).stands method.value)
          l.run.taker.progress.told (messages ++ more) l.run.call l.run.in_hand
          (shown (λ giver. g.O.Lane.put_in giver.tx) (λ s. g.O.Lane.put_shut s.shut)
          (λ s. g.O.Lane.was_placed s.shut) l.run.response));
      in_name : g.I.Lane.out_name l.run.taker.rx ≡ g.I.Lane.out_name l.fn.run.taker.rx;
      name :
          name_by (λ giver. g.O.Lane.in_name giver.tx)
          (λ s. g.O.Lane.shut_name s.shut) l.run.response
          ≡ name_by (λ giver. g.O.Lane.in_name giver.tx)
          (λ s. g.O.Lane.shut_name s.shut) l.fn.run.response;
      same : (l.run.index ≡ l.fn.run.index) × (l.run.call.head ≡ l.fn.run.call.head)
          × (l.run.call.deadline ≡ l.fn.run.call.deadline);
      overdue : l.run.call.overdue ≡ true
          → (l.fn.run.call.overdue ≡ true)
          ⊎ IsSomeAnd l.fn.run.call.deadline (λ deadline. deadline ≤ g.P.Pace.latest l.pace);
      stays : g.P.Pace.latest l.fn.pace ≤ g.P.Pace.latest l.pace;
      turns : CountsOn (g.P.Pace.turns l.fn.pace) (g.P.Pace.turns l.pace) l.had;
      lefts : CountsOn (g.P.Pace.lefts l.fn.pace) (g.P.Pace.lefts l.pace) 0;
      left : is_left l.run.response ≡ true
          → (is_left l.fn.run.response ≡ true) ⊎ (lacks_memory l.run.call.handling.ending ≡ true)
          ⊎ g.O.Lane.MayMiss;
    }
