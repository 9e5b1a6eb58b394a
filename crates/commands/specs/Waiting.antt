-- What becomes of lines that are to wait until they are printed.
use Rattle.std.specs.Prelude.{◌≡◌, ℕ, ◌+◌, ◌-◌, ◌^◌, [], ◌∷◌, ◌++◌, min}
use Rattle.commands.specs.declared.waiting.Batch.{Batch}
use Rattle.commands.specs.declared.waiting.WaitingOutput.{WaitingOutput}

-- Nothing was dropped, and the batch is after those that wait.
pub record Keeps (batch : Batch) (old new : WaitingOutput) : Type 0 where
  pub order : old.dropped ≡ 0
  pub behind : new.batches.items ≡ old.batches.items ++ batch ∷ []
  pub dropped : new.dropped ≡ 0

-- `count` more lines were dropped, after those that wait.
pub record Drops (count : ℕ) (old new : WaitingOutput) : Type 0 where
  pub same : new.batches.items ≡ old.batches.items
  pub dropped : new.dropped ≡ min (old.dropped + count) (2 ^ 64 - 1)
