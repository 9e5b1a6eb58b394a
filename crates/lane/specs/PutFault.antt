-- Why an item was not put.
use Rattle.std.specs.Prelude.{◌≡◌, ℕ, ◌+◌, ◌≤◌}
use Rattle.lane.specs.declared.fault.PutFault.{PutFault}
use Rattle.lane.specs.declared.fault.PutFault.TheVariants.{Full, OutOfMemory, NotTaken}

module _ {T : Type 0} where
  abbrev pub code_of : PutFault T → ℕ
  code_of (Full item waiting) = 1
  code_of (OutOfMemory item) = 3
  code_of (NotTaken item) = 4

  -- the item that comes back
  abbrev pub item_of : PutFault T → T
  item_of (Full item waiting) = item
  item_of (OutOfMemory item) = item
  item_of (NotTaken item) = item

  -- Full has how many of the items that were put hadn't been seen taken, and they are at least
  -- `room`. Each queue says which of the other faults it may have.
  abbrev pub MayRefuse : (ℕ → Type 0) → Type 0 → ℕ → ℕ → ℕ → PutFault T → Type 0
  MayRefuse WantsMemory MayMiss room put seen_taken (Full item waiting) =
      (waiting + seen_taken ≡ put) × (room ≤ waiting)
  MayRefuse WantsMemory MayMiss room put seen_taken (OutOfMemory item) = WantsMemory room
  MayRefuse WantsMemory MayMiss room put seen_taken (NotTaken item) = MayMiss

  -- the one refusal of a ring: for each of its slots an item was put and not seen taken
  abbrev pub IsFull : ℕ → ℕ → ℕ → PutFault T → Type 0
  IsFull slots put seen_taken (Full item waiting) = (waiting ≡ slots) × (put ≡ seen_taken + slots)
  IsFull slots put seen_taken (OutOfMemory item) = ⊥
  IsFull slots put seen_taken (NotTaken item) = ⊥
