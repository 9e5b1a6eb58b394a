-- The workers of a connection, as its reading side has them.
use Rattle.std.specs.Prelude.{◌≡◌, ◌≤◌, ℕ, false, IsSomeAnd, slice_get}
use Rattle.rtrb.specs.Ring.{known_free}
use Rattle.callparts.specs.declared.register.Naming.{Ghosts}
use Rattle.readerloop.specs.declared.worker_pool.WorkerHandle.{WorkerHandle}
use Rattle.readerloop.specs.declared.worker_pool.WorkerPool.{WorkerPool}

module _ {J M : Type 0} {book : Ghosts J} where
  -- there is a place for a call, and then for the word that no more come
  abbrev pub HasPlaces : WorkerHandle J M book → Type 0
  HasPlaces worker = (2 ≤ known_free worker.tasks) × (worker.is_ended ≡ false)

  -- the worker of this number has these places
  abbrev pub HasPlacesAt : ℕ → WorkerPool J M book → Type 0
  HasPlacesAt number pool = IsSomeAnd (slice_get pool.workers.items number) HasPlaces
