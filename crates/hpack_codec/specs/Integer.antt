-- Integers (RFC 7541, section 5.1).
use Rattle.std.specs.Prelude.{
  ◌≡◌,
  ℕ,
  ◌+◌,
  ◌-◌,
  ◌*◌,
  ◌%◌,
  ◌^◌,
  ◌<◌,
  ◌≤◌,
  ◌⊎◌,
  List,
  [],
  ◌∷◌,
  ◌++◌,
  length,
}

-- the seven low bits of each byte, the least significant byte first
unfoldable pub base_128 : List ℕ → ℕ
base_128 [] = 0
base_128 (byte ∷ bytes) = byte % 128 + 128 * base_128 bytes

-- each byte says by its top bit that another one follows
unfoldable pub IsUnfinished : List ℕ → Type 0
IsUnfinished [] = Unit {0}
IsUnfinished (byte ∷ bytes) = (128 ≤ byte) × IsUnfinished bytes

-- A number below a prefix of all ones is the prefix.
pub record IsShort (prefix_bits flags : ℕ) (text : List ℕ) (number : ℕ) : Type 0 where
  pub small : number + 1 < 2 ^ prefix_bits
  pub spelling : text ≡ (flags + number) ∷ []

-- Any other number is a prefix of all ones plus what the bytes after it say, up to one without the
-- top bit: here at most five.
pub record IsLong (prefix_bits flags : ℕ) (text : List ℕ) (number : ℕ) : Type 0 where
  pub front : List ℕ
  pub last : ℕ
  pub spelling : text ≡ (flags + (2 ^ prefix_bits - 1)) ∷ front ++ last ∷ []
  pub unfinished : IsUnfinished front
  pub finished : last < 128
  pub at_most_six : length front < 5
  pub sum : number ≡ 2 ^ prefix_bits - 1 + base_128 (front ++ last ∷ [])
  pub below : number < 2 ^ 32

-- The text spells the number, by a first byte with this prefix below these flags.
abbrev pub IsInteger : ℕ → ℕ → List ℕ → ℕ → Type 0
IsInteger prefix_bits flags text number =
    IsShort prefix_bits flags text number ⊎ IsLong prefix_bits flags text number

-- The bytes begin with a prefix of all ones.
abbrev pub BeginsLong : ℕ → List ℕ → List ℕ → Type 0
BeginsLong prefix_bits bytes more =
    (first : ℕ) × (bytes ≡ first ∷ more) × (first % 2 ^ prefix_bits ≡ 2 ^ prefix_bits - 1)

-- The bytes end before an integer does.
abbrev pub IsCut : ℕ → List ℕ → Type 0
IsCut prefix_bits bytes =
    (bytes ≡ [])
    ⊎ ((more : List ℕ) × BeginsLong prefix_bits bytes more × IsUnfinished more × (length more < 5))

-- An integer goes on after six bytes.
pub record IsEndless (prefix_bits : ℕ) (bytes : List ℕ) : Type 0 where
  pub front : List ℕ
  pub more : List ℕ
  pub begins : BeginsLong prefix_bits bytes (front ++ more)
  pub unfinished : IsUnfinished front
  pub five : length front ≡ 5

-- An integer is 2 ^ 32 or more.
pub record IsOver (prefix_bits : ℕ) (bytes : List ℕ) : Type 0 where
  pub front : List ℕ
  pub last : ℕ
  pub more : List ℕ
  pub begins : BeginsLong prefix_bits bytes (front ++ last ∷ more)
  pub unfinished : IsUnfinished front
  pub finished : last < 128
  pub over : 2 ^ 32 ≤ 2 ^ prefix_bits - 1 + base_128 (front ++ last ∷ [])
