-- What an item's giving, or its refusal, changes.
use Rattle.std.specs.Prelude.{◌≡◌, ℕ, ◌+◌, ◌≤◌, List, [], ◌∷◌, ◌++◌, length, Result, Ok, Err}
use Rattle.lane.specs.declared.fault.PutFault.{PutFault}
use Rattle.lane.specs.declared.fault.PutFault.TheVariants as put_fault
use Rattle.account.specs.declared.call.OutItem.{OutItem}
use Rattle.callrun.specs.declared.giving.GiveRefusal.{GiveRefusal}
use Rattle.callrun.specs.declared.giving.GiveRefusal.TheVariants.{Full, OutOfMemory, NotTaken}

abbrev pub without_item : {T : Type 0} → Result (Unit {0}) (PutFault T)
    → Result (Unit {0}) GiveRefusal
without_item (Ok done) = Ok done
without_item (Err (put_fault.Full item waiting)) = Err Full
without_item (Err (put_fault.OutOfMemory item)) = Err OutOfMemory
without_item (Err (put_fault.NotTaken item)) = Err NotTaken

-- at least as many of the given items wait as there is room for
abbrev pub IsFull : ℕ → ℕ → ℕ → Type 0
IsFull room given seen_taken = (waiting : ℕ) × (waiting + seen_taken ≡ given) × (room ≤ waiting)

-- Nothing was given. A place is taken already only in a lane where that may occur.
abbrev pub Refuses : GiveRefusal → Type 0 → ℕ → ℕ → List OutItem → List OutItem → Type 0
Refuses Full MayMiss room seen_taken old new = (new ≡ old) × IsFull room (length old) seen_taken
Refuses OutOfMemory MayMiss room seen_taken old new = new ≡ old
Refuses NotTaken MayMiss room seen_taken old new = (new ≡ old) × MayMiss

abbrev pub Gives : Result (Unit {0}) GiveRefusal → Type 0 → ℕ → ℕ → List OutItem → OutItem
    → List OutItem → Type 0
Gives (Ok done) MayMiss room seen_taken old item new = new ≡ old ++ item ∷ []
Gives (Err refused) MayMiss room seen_taken old item new =
    Refuses refused MayMiss room seen_taken old new
