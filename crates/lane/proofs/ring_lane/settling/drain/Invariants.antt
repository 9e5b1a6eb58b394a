use Rattle.std.proofs.Common.{◌≡◌, ◌+◌, ◌++◌, length}
use Rattle.std.specs.Option.{option_map}
use Rattle.rtrb.specs.Ring.{received, known_items}
use Rattle.lane.specs.Steps.{link}
use Rattle.lane.proofs.ring_lane.settling.drain.Given as goal

abbrev pub invariant-loop : goal.invariant-loop
invariant-loop g l =
    record {
      rest : length (known_items l.first) + l.counter ≡ l.known;
      joined : received l.first ++ known_items l.first
          ≡ received l.fn.first ++ known_items l.fn.first;
      found : l.found ≡ option_map (λ fresh. fresh.out.value) (link (received l.first));
    }
