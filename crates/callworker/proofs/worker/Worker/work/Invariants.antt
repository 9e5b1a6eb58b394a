use Rattle.std.proofs.Common.{◌≡◌}
use Rattle.lane.specs.RingEnds.{consumer_name, producer_name}
use Rattle.rtrb.specs.Ring.{received, sent}
use Rattle.callworker.specs.Works.{HasHandedBack}
use Rattle.callworker.proofs.worker.Worker.work.Given as goal

-- each call that was taken was handed back
abbrev pub invariant-calls : goal.invariant-calls
invariant-calls g l =
    record {
      tasks : consumer_name l.ways.tasks ≡ consumer_name l.fn.ways.tasks;
      done : producer_name l.ways.done ≡ producer_name l.fn.ways.done;
      handed_back :
          HasHandedBack (λ job. job.number.value) (λ finished. finished.number.value)
          (received l.ways.tasks) (sent l.ways.done);
    }
