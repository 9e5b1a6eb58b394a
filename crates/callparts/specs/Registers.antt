-- The rule of a register, and what its steps show.
use Rattle.std.specs.Prelude.{ℕ, ◌≡◌, ◌==◌, true, List, [], ◌∷◌, ◌++◌, length, MatchBool}
use Rattle.logbook.specs.Pages.{Cell, Step, View, Book, Named}

-- the first word of a book
abbrev pub head_of : Book → Named
head_of b = record { tracked = true; key = 0; book = b }

module _ {E : Type 0} where
  -- the first word is the length of the register. A book has two words, and here the second is
  -- always 0
  abbrev pub IsKept : List Cell → List E → Type 0
  IsKept cells log = cells ≡ (length log, true) ∷ (0, true) ∷ []

  -- the entry was added after all that had been seen; or there were more, and they were seen
  abbrev pub Enters : Step E → View E ℕ → ℕ → View E ℕ → Type 0
  Enters s v found w = MatchBool (found == s.old) (w.0 ≡ v.0 ++ s.ask ∷ []) (length w.0 ≡ found)
