-- Calls that were left without trailers, by what their senders gave.
use Rattle.std.specs.Prelude.{◌≡◌, ◌≢◌, ◌<◌, ℕ, Contains, List, Some, get_or, length}
use Rattle.account.specs.declared.call.OutItem.{OutItem}
use Rattle.account.specs.declared.call.OutItem.TheVariants.{Left}
use Rattle.lane.specs.Lawful.{last_of}

-- the sender of this stream gave last that its call was left, by the list of each call's stream and
-- items
abbrev pub WasLeft : ℕ → List (ℕ × List OutItem) → Type 0
WasLeft id calls = (items : List OutItem) × Contains calls (id, items) × (last_of items ≡ Some Left)

-- the sender of this stream gave, at some time, that its call was left
abbrev pub GaveLeft : ℕ → List (ℕ × List OutItem) → Type 0
GaveLeft id calls = (items : List OutItem) × Contains calls (id, items) × Contains items Left

-- the sender of the call at this place didn't give last that its call was left, or there is none
abbrev pub WasNotLeftAt : ℕ → List (ℕ × List OutItem) → Type 0
WasNotLeftAt place calls =
    place < length calls → (d : ℕ × List OutItem) → last_of (get_or calls place d).1 ≢ Some Left
