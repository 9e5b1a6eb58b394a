-- Parts of a field's value. Only the crate's own functions use these words.
use Rattle.std.specs.Prelude.{◌≡◌, ◌≢◌, ℕ, List, [], ◌∷◌, ◌++◌, Option, MatchOption}
use Rattle.callhead.specs.BinValues.{IsPart}

-- the byte is not among these
abbrev pub IsWithout : ℕ → List ℕ → Type 0
IsWithout mark [] = Unit {0}
IsWithout mark (byte ∷ bytes) = (byte ≢ mark) × IsWithout mark bytes

-- the last byte is a padding sign
abbrev pub IsPadded : List ℕ → Type 0
IsPadded part = (front : List ℕ) × (part ≡ front ++ 0x3D ∷ [])

-- the one value for which a part stands, or that it stands for none
abbrev pub ReadsPart : List ℕ → Option (List ℕ) → Type 0
ReadsPart part found =
    MatchOption found ((value : List ℕ) → IsPart part value → ⊥)
    (λ read. IsPart part read × ((value : List ℕ) → IsPart part value → value ≡ read))
