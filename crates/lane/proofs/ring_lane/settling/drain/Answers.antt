use Rattle.std.proofs.Common.{◌∙◌, arith, ap, length}
use Rattle.rtrb.specs.Ring.{received, known_items}
use Rattle.lane.proofs.StepLemmas.{shifted, after_link}
use Rattle.lane.proofs.ring_lane.settling.drain.Goals as goal

pub loop-preserved : goal.loop-preserved
loop-preserved g c =
    let popped = c.pop_known.ensures.received in
    let inv = c.loop.invariant in
    let less = ap length popped.1 in
    let rest = inv.rest in
    record {
      rest = omega arith;
      joined =
          shifted (received c.loop.first) _ (known_items c.loop.first)
          (known_items c.pop_known.new.self) _ c.pop_known.result popped.0 popped.1 inv.joined;
      found =
          c.way_on-found.ensures
          ∙ after_link (λ fresh. fresh.out.value) (received c.loop.first) _ c.pop_known.result
          c.loop.found popped.0 inv.found;
    }
