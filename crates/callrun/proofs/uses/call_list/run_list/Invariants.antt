use Rattle.std.proofs.Common.{◌≡◌, ◌<◌, length, All, true, false}
use Rattle.std.specs.Prelude.{IfSome, slice_get}
use Rattle.lane.specs.End.{of_end}
use Rattle.handlers.specs.Listed.{listed}
use Rattle.std.specs.List.{sum_by}
use Rattle.callrun.specs.Listings.{CountsOn, HadTurns, IsUntouched, WasRun, leaves}
use Rattle.callrun.proofs.Listing.{RunsUpTo}
use Rattle.callrun.proofs.uses.call_list.run_list.Given as goal

-- the calls that don't wait any more were run, and of the others nothing was taken yet
abbrev pub invariant-loop-call : goal.invariant-loop-call
invariant-loop-call g l =
    record {
      run : RunsUpTo (λ call end.
          IfSome (slice_get (listed l.methods) call.index) (λ method.
          WasRun ((goal.Method-dyn g (method.vtable, method.value)).answers method.value) call.head
          call.opened (g.P.Pace.latest l.pace)
          (g.I.Lane.got end.taker.rx) end.taker.progress (of_end
          (λ giver. g.O.Lane.put_in giver.tx) (λ s. g.O.Lane.put_shut s.shut)
          end.end) end.code)
          × (g.I.Lane.out_name end.taker.rx ≡ g.I.Lane.out_name call.taker.rx)
          × (of_end (λ giver. g.O.Lane.in_name giver.tx) (λ s. g.O.Lane.shut_name s.shut) end.end
          ≡ g.O.Lane.in_name call.giver.tx))
          l.fn.calls.items l.waiting.items l.ended.items;
      turns :
          CountsOn (g.P.Pace.turns l.fn.pace) (g.P.Pace.turns l.pace)
          (sum_by (λ end. end.turns) l.ended.items);
      lefts :
          CountsOn (g.P.Pace.lefts l.fn.pace) (g.P.Pace.lefts l.pace)
          (sum_by (λ end. leaves end.why) l.ended.items);
      had :
          All (λ end.
          HadTurns l.turns end.turns end.why (of_end (λ giver. false) (λ s. true) end.end)
          end.ran_out g.O.Lane.MayMiss) l.ended.items;
      index : All (λ call. call.index < length (listed l.methods)) l.waiting.items;
      untouched :
          All (λ call.
          IsUntouched (g.I.Lane.got call.taker.rx) call.taker.progress
          (g.O.Lane.put_in call.giver.tx)) l.waiting.items;
    }

abbrev pub decreases-loop-call : goal.decreases-loop-call
decreases-loop-call g l = length l.waiting.items
