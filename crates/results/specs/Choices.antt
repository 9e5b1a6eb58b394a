-- Which cases are run.
use Rattle.std.specs.Prelude.{
  ◌≡◌,
  ◌≢◌,
  ◌≤◌,
  ◌⊎◌,
  ◌↔◌,
  ⊤,
  ℕ,
  IsTrue,
  List,
  All,
  Any,
  Contains,
  Option,
  Some,
  None,
  codes,
  slice_get,
  take,
}
use Rattle.std.specs.Borrow.{Bor}
use Rattle.std.specs.List.Sorted.{IsStrictlyIncreasing}
use Rattle.results.specs.Patterns.{Matches}
use Rattle.results.specs.declared.choice.Choice.{Choice}
use Rattle.results.specs.declared.choice.ChoiceFault.{ChoiceFault}
use Rattle.results.specs.declared.choice.ChoiceFault.TheVariants as fault
use Rattle.results.specs.declared.choice.Entry.{Entry}
use Rattle.results.specs.declared.words.Level.{Level}

-- the word `all` chooses the cases that it means, and another those whose names it matches
abbrev pub IsChosenBy : Entry → List ℕ → Type 0
IsChosenBy entry word =
    ((word ≡ codes "all") × IsTrue entry.is_in_all)
    ⊎ ((word ≢ codes "all") × Matches word entry.name.now)

-- the place of a level among all, the most binding first
abbrev pub rank : Level → ℕ
rank Level.Must = 0
rank Level.Should = 1
rank Level.Ours = 2

-- a level binds at least as much as the least one; a case without a level is chosen too
abbrev pub IsOfLevel : Option Level → Option Level → Type 0
IsOfLevel None level = ⊤
IsOfLevel (Some least) None = ⊤
IsOfLevel (Some least) (Some level) = rank level ≤ rank least

-- one of the words chooses it, none of those that skip does, and it is of the level
abbrev pub IsChosen : Choice → Entry → Type 0
IsChosen choice entry =
    Any (λ word. IsChosenBy entry word.now) choice.words.now
    × ¬ Any (λ word. IsChosenBy entry word.now) choice.skip.now
    × IsOfLevel choice.level entry.level

-- a word chooses none of the cases
abbrev pub IsIdle : List Entry → List ℕ → Type 0
IsIdle entries word = ¬ Any (λ entry. IsChosenBy entry word) entries

-- each of these words chooses a case
abbrev pub AllChoose : List Entry → List (Bor (List ℕ)) → Type 0
AllChoose entries words = All (λ word. Any (λ entry. IsChosenBy entry word.now) entries) words

-- the place of a case that is chosen
abbrev pub IsPlace : List Entry → Choice → ℕ → Type 0
IsPlace entries choice place =
    (entry : Entry) × (slice_get entries place ≡ Some entry) × IsChosen choice entry

-- these places, each once and in order
abbrev pub ArePlaces : List Entry → Choice → List ℕ → Type 0
ArePlaces entries choice places =
    IsStrictlyIncreasing places
    × ((place : ℕ) → Contains places place ↔ IsPlace entries choice place)

-- the first of these words that chooses none of the cases
abbrev pub IsFirstIdle : List Entry → List (Bor (List ℕ)) → List ℕ → Type 0
IsFirstIdle entries words word =
    (place : ℕ) × (found : Bor (List ℕ)) × (slice_get words place ≡ Some found) × (found.now ≡ word)
    × IsIdle entries word
    × AllChoose entries (take place words)

-- why no cases are chosen: a word is idle, of those that choose and then of those that skip; or no
-- case is left
abbrev pub Explains : List Entry → Choice → ChoiceFault → Type 0
Explains entries choice (fault.NoCase word) =
    IsFirstIdle entries choice.words.now word.now
    ⊎ (AllChoose entries choice.words.now × IsFirstIdle entries choice.skip.now word.now)
Explains entries choice fault.NothingLeft = (place : ℕ) → ¬ IsPlace entries choice place
Explains entries choice fault.OutOfMemory = ⊤
