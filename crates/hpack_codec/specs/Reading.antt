-- What the parts of the decoder and the encoder do: facts that their private functions hand on.
use Rattle.std.specs.Prelude.{
  ◌≡◌,
  ℕ,
  ◌+◌,
  ◌-◌,
  ◌*◌,
  ◌/◌,
  ◌^◌,
  ◌<◌,
  ◌≤◌,
  ◌⊎◌,
  Bool,
  true,
  false,
  List,
  [],
  ◌∷◌,
  ◌++◌,
  length,
  Some,
  slice_get,
}
use Rattle.std.specs.List.{flat_map}
use Rattle.hpack_codec.specs.declared.fault.HpackFault.{HpackFault}
use Rattle.hpack_codec.specs.declared.fault.HpackFault.TheVariants.{
  Integer,
  Huffman,
  SizeUpdate,
  Truncated,
  OutOfMemory,
  Dead,
  TooLarge,
}
use Rattle.lists.specs.declared.field.Field.{Field}
use Rattle.hpack_codec.specs.declared.table_match.TableMatch.{TableMatch}
use Rattle.hpack_codec.specs.declared.table_match.TableMatch.TheVariants.{Whole, Name, Nothing}
use Rattle.hpack_codec.specs.StaticTable.{static_table, entry}
use Rattle.hpack_codec.specs.Integer.{base_128, IsUnfinished, IsInteger}
use Rattle.hpack_codec.specs.Huffman.{bits, code, IsHuffman, AreOctets}
use Rattle.hpack_codec.specs.StringLiteral.{IsString}
use Rattle.hpack_codec.specs.Table.{Table, entry_at, insert_entry, sizes_of}
use Rattle.hpack_codec.specs.Block.{IsName, IsLiteral, Represents, AreUpdates, AreFields}
use Rattle.hpack_codec.specs.Faults.{
  IsIndexedFault,
  IsLiteralFault,
  IsUpdateFault,
  IsFaultBehind,
  Begins,
}

-- new is old with a text of this meaning at its end
abbrev pub Appends : List ℕ → List ℕ → (List ℕ → Type 0) → Type 0
Appends old new Means = (text : List ℕ) × (new ≡ old ++ text) × Means text

-- the bits of the first byte above its prefix
unfoldable pub flags_of : ℕ → List ℕ → ℕ
flags_of prefix_bits [] = 0
flags_of prefix_bits (first ∷ rest) = first / 2 ^ prefix_bits * 2 ^ prefix_bits

-- The bytes after a prefix of all ones: up to the first without the top bit they say the number.
pub record TakesMore (bytes : List ℕ) (number : ℕ) (rest : List ℕ) : Type 0 where
  pub front : List ℕ
  pub last : ℕ
  pub spelling : bytes ≡ front ++ last ∷ rest
  pub unfinished : IsUnfinished front
  pub finished : last < 128
  pub at_most_five : length front < 5
  pub sum : number ≡ base_128 (front ++ last ∷ [])

-- The bytes end before a byte without the top bit, or none of the first five is one.
abbrev pub IsMoreFault : HpackFault → List ℕ → Type 0
IsMoreFault Truncated bytes = IsUnfinished bytes × (length bytes < 5)
IsMoreFault Integer bytes =
    (front rest : List ℕ) × (bytes ≡ front ++ rest) × IsUnfinished front × (length front ≡ 5)
IsMoreFault other bytes = ⊥

-- An integer is taken from the front.
abbrev pub TakesInteger : ℕ → List ℕ → ℕ → List ℕ → Type 0
TakesInteger prefix_bits bytes number rest =
    (text : List ℕ) × (bytes ≡ text ++ rest)
    × IsInteger prefix_bits (flags_of prefix_bits bytes) text number

-- A string is taken from the front.
abbrev pub TakesString : List ℕ → List ℕ → List ℕ → Type 0
TakesString bytes octets rest = (text : List ℕ) × (bytes ≡ text ++ rest) × IsString text octets

-- No symbol's code begins these bits.
abbrev pub BeginsNoCode : List ℕ → Type 0
BeginsNoCode register =
    (symbol : ℕ) (more : List ℕ) → symbol < 256 → register ≡ code symbol ++ more → ⊥

-- Octets were moved from the front of a register to the end of a list.
pub record Drains (old new : List ℕ) (count register left_count left : ℕ) : Type 0 where
  pub moved : List ℕ
  pub octets : AreOctets moved
  pub new_is : new ≡ old ++ moved
  pub register_is : bits count register ≡ flat_map code moved ++ bits left_count left
  pub none : BeginsNoCode (bits left_count left)
  pub bound : left < 2 ^ left_count
  pub shorter : left_count ≤ count

-- Whole bytes were moved from the front of a register to the end of a list.
pub record Flushes (old new : List ℕ) (count register left_count left : ℕ) : Type 0 where
  pub moved : List ℕ
  pub new_is : new ≡ old ++ moved
  pub register_is : bits count register ≡ flat_map (bits 8) moved ++ bits left_count left
  pub bound : left < 2 ^ left_count
  pub short : left_count < 8

-- how many bytes the Huffman text of octets has: those of its bits, rounded up
unfoldable pub text_length : List ℕ → ℕ
text_length octets = (length (flat_map code octets) + 7) / 8

-- the Huffman text of octets, of this length
abbrev pub IsTextOf : List ℕ → List ℕ → Type 0
IsTextOf text octets = IsHuffman text octets × (length text ≡ text_length octets)

-- No octets have this Huffman text.
abbrev pub IsTextFault : HpackFault → List ℕ → Type 0
IsTextFault Huffman text = (octets : List ℕ) → IsHuffman text octets → ⊥
IsTextFault OutOfMemory text = Unit {0}
IsTextFault other text = ⊥

-- A fault of the bytes, or out of memory.
abbrev pub OrMemory : HpackFault → Type 0 → Type 0
OrMemory OutOfMemory Fault = Unit {0}
OrMemory other Fault = Fault

-- The name of a literal with this index is taken from the front.
abbrev pub TakesName : Table → ℕ → List ℕ → List ℕ → List ℕ → Type 0
TakesName table index bytes octets rest =
    (text : List ℕ) × (bytes ≡ text ++ rest) × IsName table index text octets

-- A literal is taken from the front.
abbrev pub TakesLiteral : ℕ → Table → List ℕ → Field → List ℕ → Type 0
TakesLiteral prefix_bits table bytes field rest =
    (text : List ℕ) × (bytes ≡ text ++ rest)
    × IsLiteral prefix_bits (flags_of prefix_bits bytes) table text field

-- An indexed field is taken from the front.
abbrev pub TakesIndexed : Table → List ℕ → Field → List ℕ → Type 0
TakesIndexed table bytes field rest =
    (text : List ℕ) × (bytes ≡ text ++ rest)
    × ((index : ℕ) × IsInteger 7 128 text index × (entry_at table index ≡ Some field))

-- the table after a field that becomes an entry, or doesn't
abbrev pub next_table : Bool → Table → Field → Table
next_table true table field = insert_entry table field
next_table false table field = table

-- A representation of a field is taken from the front.
pub record TakesField (table : Table) (bytes : List ℕ) (field : Field) (is_entry : Bool)
    (rest : List ℕ) : Type 0 where
  pub text : List ℕ
  pub spelling : bytes ≡ text ++ rest
  pub represents : Represents table text field (next_table is_entry table field)
  pub shorter : length rest < length bytes

-- the fault where a representation of a field has to be; a change of size isn't one
abbrev pub IsFieldFault : HpackFault → Table → List ℕ → Type 0
IsFieldFault fault table bytes =
    (Begins 128 256 bytes × IsIndexedFault fault table bytes)
    ⊎ (Begins 64 128 bytes × IsLiteralFault fault 6 64 table bytes)
    ⊎ (Begins 16 32 bytes × IsLiteralFault fault 4 16 table bytes)
    ⊎ (Begins 0 16 bytes × IsLiteralFault fault 4 0 table bytes)
    ⊎ (Begins 32 64 bytes × (fault ≡ SizeUpdate))

-- the fault after fields of lawful size
pub record FaultBehind (fault : HpackFault) (table : Table) (bytes : List ℕ) : Type 0 where
  pub front : List ℕ
  pub rest : List ℕ
  pub fields : List Field
  pub mid : Table
  pub spelling : bytes ≡ front ++ rest
  pub are_fields : AreFields table front fields mid
  pub lawful : sizes_of fields ≤ 65536
  pub is_fault : IsFaultBehind fault fields mid rest

pub record LargeFront (table : Table) (bytes : List ℕ) : Type 0 where
  pub front : List ℕ
  pub rest : List ℕ
  pub fields : List Field
  pub mid : Table
  pub spelling : bytes ≡ front ++ rest
  pub are_fields : AreFields table front fields mid
  pub large : 65536 < sizes_of fields

abbrev pub IsFieldsFault : HpackFault → Table → List ℕ → Type 0
IsFieldsFault TooLarge table bytes = LargeFront table bytes
IsFieldsFault Dead table bytes = ⊥
IsFieldsFault OutOfMemory table bytes = Unit {0}
IsFieldsFault other table bytes = FaultBehind other table bytes

-- The changes of size at the front are taken, all of them.
pub record TakesUpdates (table : Table) (bytes : List ℕ) (next : Table)
    (rest : List ℕ) : Type 0 where
  pub text : List ℕ
  pub limits : List ℕ
  pub spelling : bytes ≡ text ++ rest
  pub are_updates : AreUpdates table text limits next
  pub no_more : Begins 32 64 rest → ⊥

pub record IsUpdatesFault (fault : HpackFault) (table : Table) (bytes : List ℕ) : Type 0 where
  pub text : List ℕ
  pub rest : List ℕ
  pub limits : List ℕ
  pub mid : Table
  pub spelling : bytes ≡ text ++ rest
  pub are_updates : AreUpdates table text limits mid
  pub begins : Begins 32 64 rest
  pub is_fault : IsUpdateFault fault rest

-- The text is changes of size that lead from the one table to the other.
abbrev pub Changes : Table → List ℕ → Table → Type 0
Changes table text next = (limits : List ℕ) × AreUpdates table text limits next

-- The static entry at this index has this name and value, or this name.
abbrev pub IsStatic : TableMatch → List ℕ → List ℕ → Type 0
IsStatic (Whole index) name_bytes value_bytes =
    (0 < index) × (index ≤ 61)
    × (slice_get static_table (index - 1) ≡ Some (entry name_bytes value_bytes))
IsStatic (Name index) name_bytes value_bytes =
    (other : List ℕ) × (0 < index) × (index ≤ 61)
    × (slice_get static_table (index - 1) ≡ Some (entry name_bytes other))
IsStatic Nothing name_bytes value_bytes = Unit {0}

-- The entry at this index of both tables has this name and value, or this name.
abbrev pub IsFound : Table → TableMatch → List ℕ → List ℕ → Type 0
IsFound table (Whole index) name_bytes value_bytes =
    entry_at table index ≡ Some (entry name_bytes value_bytes)
IsFound table (Name index) name_bytes value_bytes =
    (other : List ℕ) × (entry_at table index ≡ Some (entry name_bytes other))
IsFound table Nothing name_bytes value_bytes = Unit {0}

-- The index of a literal with this name: 0, or an entry's with the name.
abbrev pub IsNameAt : Table → ℕ → List ℕ → Type 0
IsNameAt table index octets =
    (index ≡ 0) ⊎ ((other : List ℕ) × (entry_at table index ≡ Some (entry octets other)))
