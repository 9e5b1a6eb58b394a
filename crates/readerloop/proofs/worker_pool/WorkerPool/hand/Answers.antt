use Rattle.readerloop.proofs.WorkerSteps.{places-found}
use Rattle.readerloop.proofs.worker_pool.WorkerPool.hand.Goals as goal

pub hand-requires-clause-places : goal.hand-requires-clause-places
hand-requires-clause-places g c =
    places-found c.args.self.now.workers.items c.args.number c.in-Some.worker.now
    c.in-Some.ensures.item.3.0 c.in-Some.ensures.value c.requires.places
