-- Hexadecimal text.
use Rattle.std.specs.Prelude.{◌≡◌, ℕ, ◌==◌, ◌||◌, Bool, not, List, filter, Ok, IsErr}
use Rattle.hex.specs.Hex.{decode_of}

-- a blank, a tab or an end of a line, which stand anywhere and mean nothing: 20, 09, 0A and 0D
abbrev pub is_blank : ℕ → Bool
is_blank c = c == 32 || (c == 9 || (c == 10 || c == 13))

-- a text without its blanks
abbrev pub without_blanks : List ℕ → List ℕ
without_blanks text = filter (λ c. not (is_blank c)) text

-- the text spells the bytes, two digits of either case for each
abbrev pub SpellsBytes : List ℕ → List ℕ → Type 0
SpellsBytes text bytes = decode_of (without_blanks text) ≡ Ok bytes

-- the text has an odd number of digits, or something that is neither a digit nor blank
abbrev pub IsNotHex : List ℕ → Type 0
IsNotHex text = IsErr (decode_of (without_blanks text))
