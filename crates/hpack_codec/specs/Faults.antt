-- Why bytes aren't a block: the first fault from the left.
use Rattle.std.specs.Prelude.{
  ◌≡◌,
  ◌≢◌,
  ℕ,
  zero,
  suc,
  ◌<◌,
  ◌≤◌,
  ◌⊎◌,
  List,
  [],
  ◌∷◌,
  ◌++◌,
  length,
  None,
}
use Rattle.hpack_codec.specs.declared.fault.HpackFault.{HpackFault}
use Rattle.hpack_codec.specs.declared.fault.HpackFault.TheVariants.{
  Integer,
  Index,
  Huffman,
  SizeUpdate,
  Truncated,
  OutOfMemory,
  Dead,
  TooLarge,
}
use Rattle.lists.specs.declared.field.Field.{Field}
use Rattle.hpack_codec.specs.Integer.{IsInteger, IsCut, IsEndless, IsOver}
use Rattle.hpack_codec.specs.Huffman.{IsHuffman}
use Rattle.hpack_codec.specs.Table.{Table, entry_at, sizes_of}
use Rattle.hpack_codec.specs.Block.{IsName, IsBlock}

-- the fault where an integer has to be
abbrev pub IsIntegerFault : HpackFault → ℕ → List ℕ → Type 0
IsIntegerFault Integer prefix_bits bytes = IsEndless prefix_bits bytes ⊎ IsOver prefix_bits bytes
IsIntegerFault Truncated prefix_bits bytes = IsCut prefix_bits bytes
IsIntegerFault other prefix_bits bytes = ⊥

-- The bytes of a string are fewer than its length says.
pub record IsCutString (bytes : List ℕ) : Type 0 where
  pub size : List ℕ
  pub content : List ℕ
  pub len : ℕ
  pub spelling : bytes ≡ size ++ content
  pub is_size : IsInteger 7 0 size len ⊎ IsInteger 7 128 size len
  pub short : length content < len

-- The bytes of a string that has the flag are no Huffman text.
pub record IsNoHuffman (bytes : List ℕ) : Type 0 where
  pub size : List ℕ
  pub content : List ℕ
  pub rest : List ℕ
  pub spelling : bytes ≡ size ++ (content ++ rest)
  pub is_size : IsInteger 7 128 size (length content)
  pub none : (octets : List ℕ) → IsHuffman content octets → ⊥

-- the fault where a string has to be
abbrev pub IsStringFault : HpackFault → List ℕ → Type 0
IsStringFault Integer bytes = IsIntegerFault Integer 7 bytes
IsStringFault Truncated bytes = IsIntegerFault Truncated 7 bytes ⊎ IsCutString bytes
IsStringFault Huffman bytes = IsNoHuffman bytes
IsStringFault other bytes = ⊥

-- the fault where the name of a literal with this index has to be
abbrev pub IsNameFault : HpackFault → Table → ℕ → List ℕ → Type 0
IsNameFault fault table zero bytes = IsStringFault fault bytes
IsNameFault fault table (suc place) bytes = (fault ≡ Index) × (entry_at table (suc place) ≡ None)

-- the fault after the index of a literal: at its name, or after that at its value
abbrev pub IsPairFault : HpackFault → Table → ℕ → List ℕ → Type 0
IsPairFault fault table index bytes =
    IsNameFault fault table index bytes
    ⊎ ((name_text octets rest : List ℕ)
    × (bytes ≡ name_text ++ rest) × IsName table index name_text octets × IsStringFault fault rest)

-- the fault where a literal has to be: at its index, or after it
abbrev pub IsLiteralFault : HpackFault → ℕ → ℕ → Table → List ℕ → Type 0
IsLiteralFault fault prefix_bits flags table bytes =
    IsIntegerFault fault prefix_bits bytes
    ⊎ ((index : ℕ) × (index_text rest : List ℕ)
    × (bytes ≡ index_text ++ rest) × IsInteger prefix_bits flags index_text index
    × IsPairFault fault table index rest)

-- the fault where an indexed field has to be
abbrev pub IsIndexedFault : HpackFault → Table → List ℕ → Type 0
IsIndexedFault fault table bytes =
    IsIntegerFault fault 7 bytes
    ⊎ ((index : ℕ) × (index_text rest : List ℕ)
    × (bytes ≡ index_text ++ rest) × IsInteger 7 128 index_text index
    × (fault ≡ Index) × (entry_at table index ≡ None))

-- The first byte is in this range.
abbrev pub Begins : ℕ → ℕ → List ℕ → Type 0
Begins least above bytes =
    (first : ℕ) × (rest : List ℕ) × (bytes ≡ first ∷ rest) × (least ≤ first) × (first < above)

-- the fault of a change of size, before the first field
abbrev pub IsUpdateFault : HpackFault → List ℕ → Type 0
IsUpdateFault fault bytes =
    IsIntegerFault fault 5 bytes
    ⊎ ((new_limit : ℕ) × (limit_text rest : List ℕ)
    × (bytes ≡ limit_text ++ rest) × IsInteger 5 32 limit_text new_limit
    × (fault ≡ SizeUpdate) × (4096 < new_limit))

-- After these fields a representation has to come, and none does. A change of size after a field is
-- a fault by its first byte.
abbrev pub IsFaultBehind : HpackFault → List Field → Table → List ℕ → Type 0
IsFaultBehind fault fields table bytes =
    (Begins 128 256 bytes × IsIndexedFault fault table bytes)
    ⊎ (Begins 64 128 bytes × IsLiteralFault fault 6 64 table bytes)
    ⊎ (Begins 16 32 bytes × IsLiteralFault fault 4 16 table bytes)
    ⊎ (Begins 0 16 bytes × IsLiteralFault fault 4 0 table bytes)
    ⊎ (Begins 32 64 bytes × (fields ≡ []) × IsUpdateFault fault bytes)
    ⊎ (Begins 32 64 bytes × (fields ≢ []) × (fault ≡ SizeUpdate))

-- The bytes before it are a block of lawful size.
pub record StandsBehind (fault : HpackFault) (table : Table) (block : List ℕ) : Type 0 where
  pub front : List ℕ
  pub rest : List ℕ
  pub fields : List Field
  pub mid : Table
  pub spelling : block ≡ front ++ rest
  pub is_block : IsBlock table front fields mid
  pub lawful : sizes_of fields ≤ 65536
  pub is_fault : IsFaultBehind fault fields mid rest

-- A front of the block spells fields that are too large together.
pub record IsTooLarge (table : Table) (block : List ℕ) : Type 0 where
  pub front : List ℕ
  pub rest : List ℕ
  pub fields : List Field
  pub mid : Table
  pub spelling : block ≡ front ++ rest
  pub is_block : IsBlock table front fields mid
  pub large : 65536 < sizes_of fields

-- The first fault from the left, over this table.
abbrev pub Stands : HpackFault → Table → List ℕ → Type 0
Stands OutOfMemory table block = Unit {0}
Stands Dead table block = ⊥
Stands TooLarge table block = IsTooLarge table block
Stands other table block = StandsBehind other table block
