use Rattle.readerloop.proofs.WorkerSteps.{places-set}
use Rattle.readerloop.proofs.worker_pool.WorkerPool.is_free.Goals as goal

pub returns : goal.returns
returns g c = record {
  places = λ is.
      places-set c.args.self.now.workers.items c.args.number c.is_free.new.self
      c.in-Some.ensures.item.3.0 (c.is_free.ensures.places is);
}
