-- What a note knows of a cell.
use Rattle.std.specs.Prelude.{Bool, true, false, List, [], ◌∷◌, Option, None, Some}

module _ {T : Type 0} where
  -- the item that the cell is known to hold
  abbrev pub known_item : Option (Option T) → List T
  known_item None = []
  known_item (Some None) = []
  known_item (Some (Some item)) = item ∷ []

  abbrev pub holds_item : Option (Option T) → Bool
  holds_item None = false
  holds_item (Some None) = false
  holds_item (Some (Some item)) = true
