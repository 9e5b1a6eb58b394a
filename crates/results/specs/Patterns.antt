-- Which names a word of a command line chooses.
use Rattle.std.specs.Prelude.{◌≡◌, ◌≢◌, ◌≤◌, ◌<◌, ◌⊎◌, ◌^◌, ℕ, List, [], ◌∷◌, ◌++◌, Contains}
use Rattle.std.specs.Str.Parse.{AllDigits, digits_value}

-- the bytes of `*`, `-` and `/`
abbrev pub star : ℕ
star = 42

abbrev pub dash : ℕ
dash = 45

abbrev pub slash : ℕ
slash = 47

-- a text that a word stands for: each `*` for any text, and any other byte for itself
abbrev pub IsGlob : List ℕ → List ℕ → Type 0
IsGlob [] text = text ≡ []
IsGlob (byte ∷ word) text =
    ((byte ≡ star) × (before rest : List ℕ) × (text ≡ before ++ rest) × IsGlob word rest)
    ⊎ ((byte ≢ star) × (rest : List ℕ) × (text ≡ byte ∷ rest) × IsGlob word rest)

-- a text is the first of these parts, the mark, which that hasn't, and the second
abbrev pub CutsAt : ℕ → List ℕ → List ℕ → List ℕ → Type 0
CutsAt mark text front back = (text ≡ front ++ mark ∷ back) × ¬ Contains front mark

-- a name is its group, `/`, and the rest
abbrev pub IsOfGroup : List ℕ → List ℕ → Type 0
IsOfGroup group name = (rest : List ℕ) × CutsAt slash name group rest

-- decimal digits that write a number of 32 bits
abbrev pub Writes : List ℕ → ℕ → Type 0
Writes digits number =
    AllDigits 10 digits × (digits ≢ []) × (digits_value 10 digits ≡ number) × (number < 2 ^ 32)

-- digits that write a number at most as great as others
abbrev pub IsAtMost : List ℕ → List ℕ → Type 0
IsAtMost digits others =
    (number most : ℕ) × Writes digits number × Writes others most × (number ≤ most)

-- a range LOW-HIGH has a number in it
abbrev pub IsRangeOf : List ℕ → List ℕ → Type 0
IsRangeOf range digits =
    (low high : List ℕ) × CutsAt dash range low high × IsAtMost low digits × IsAtMost digits high

-- the word is GROUP/LOW-HIGH, and the name is GROUP/NUMBER with a number from LOW to HIGH
abbrev pub IsInRange : List ℕ → List ℕ → Type 0
IsInRange word name =
    (group range digits : List ℕ) × CutsAt slash word group range × CutsAt slash name group digits
    × IsRangeOf range digits

-- a word chooses a name: by itself, with `*`; by its group; or by a range
abbrev pub Matches : List ℕ → List ℕ → Type 0
Matches word name = IsGlob word name ⊎ IsOfGroup word name ⊎ IsInRange word name
