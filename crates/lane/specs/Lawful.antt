-- What a queue from one writer to one reader may do.
use Rattle.std.specs.Prelude.{
  ℕ,
  ◌+◌,
  ◌≤◌,
  min,
  Bool,
  true,
  false,
  List,
  [],
  ◌∷◌,
  Option,
  None,
  Some,
  length,
}
use mathlib.Core.List.{IsPrefix}

-- 1 where `last` placed its item, which needs none of the room
abbrev pub last_count : Bool → ℕ
last_count true = 1
last_count false = 0

-- What was got, oldest first, begins what was put. All that was put was got, but at most `room`
-- items and the one that `last` placed.
pub record IsLawful {T : Type 0} (room : ℕ) (has_last : Bool) (put got : List T) : Type 0 where
  pub begins : IsPrefix got put
  pub within : length put ≤ length got + room + last_count has_last

-- the number of items, up to the greatest `u64`
abbrev pub count_of : {T : Type 0} → List T → ℕ
count_of items = min (length items) 18446744073709551615

-- the item that came last
abbrev pub last_of : {T : Type 0} → List T → Option T
last_of [] = None
last_of (item ∷ []) = Some item
last_of (item ∷ next ∷ items) = last_of (next ∷ items)
