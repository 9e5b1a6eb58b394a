-- The one spelling that the writers give a field (Protocol Buffers encoding guide, "Base 128
-- Varints" and "Message Structure").
use Rattle.std.specs.Prelude.{
  ℕ,
  zero,
  suc,
  ◌+◌,
  ◌/◌,
  ◌%◌,
  ◌^◌,
  ◌<◌,
  ◌≤◌,
  List,
  [],
  ◌∷◌,
  ◌++◌,
  length,
  nat_lt,
  if◌then◌else◌,
}
use Rattle.std.specs.List.{flat_map}
use Rattle.std.specs.Int.{w32, w64, to_le_bytes}
use Rattle.pbwire.specs.Fields.{Content, varint, eight_bytes, bytes, four_bytes, Field, tag_of}

-- a number in at most this many groups after the first
abbrev pub varint_within : ℕ → ℕ → List ℕ
varint_within zero n = n ∷ []
varint_within (suc more) n =
    if nat_lt n 128 then n ∷ [] else (n % 128 + 128) ∷ varint_within more (n / 128)

-- The shortest spelling of a number below 2 ^ 64: at most ten bytes.
unfoldable pub varint_spelling : ℕ → List ℕ
varint_spelling n = varint_within 9 n

abbrev pub content_spelling : Content → List ℕ
content_spelling (varint n) = varint_spelling n
content_spelling (eight_bytes n) = to_le_bytes w64 n
content_spelling (bytes b) = varint_spelling (length b) ++ b
content_spelling (four_bytes n) = to_le_bytes w32 n

-- a field that is there is written, whatever it holds
abbrev pub spelling_of : Field → List ℕ
spelling_of field = varint_spelling (tag_of field) ++ content_spelling field.content

-- the fields one after another
abbrev pub spelling_of_all : List Field → List ℕ
spelling_of_all fields = flat_map spelling_of fields

abbrev pub IsFieldNumber : ℕ → Type 0
IsFieldNumber number = (1 ≤ number) × (number ≤ 536870911)

-- numbers that fit their kind, as those of a value of the program do
abbrev pub FitsContent : Content → Type 0
FitsContent (varint n) = n < 2 ^ 64
FitsContent (eight_bytes n) = n < 2 ^ 64
FitsContent (bytes b) = length b < 2 ^ 64
FitsContent (four_bytes n) = n < 2 ^ 32

-- what has a spelling
pub record FitsField (field : Field) : Type 0 where
  pub number : IsFieldNumber field.number
  pub content : FitsContent field.content
