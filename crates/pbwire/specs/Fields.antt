-- The fields of a byte list (Protocol Buffers encoding guide, "Message Structure").
use Rattle.std.specs.Prelude.{
  ◌≡◌,
  ◌≢◌,
  ℕ,
  ◌+◌,
  ◌*◌,
  ◌/◌,
  ◌%◌,
  ◌^◌,
  ◌<◌,
  ◌≤◌,
  ◌⊎◌,
  List,
  [],
  ◌∷◌,
  ◌++◌,
  length,
  Option,
  Some,
  None,
  Result,
  Ok,
  Err,
}
use Rattle.std.specs.Int.{w32, w64, from_le_bytes}
use Rattle.pbwire.specs.declared.fault.WireFault.{WireFault}
use Rattle.pbwire.specs.declared.fault.WireFault.TheVariants.{Truncated, BadTag, Group}
use Rattle.pbwire.specs.declared.field.FieldValue.{FieldValue}
use Rattle.pbwire.specs.declared.field.FieldValue.TheVariants.{Varint, EightBytes, Bytes, FourBytes}
use Rattle.pbwire.specs.declared.field.FieldItem.{FieldItem}
use Rattle.pbwire.specs.Varint.{IsVarint, StartsWithVarint, VarintFault}

-- what a field holds, by its kind
pub data Content : Type 0 where
  varint : ℕ → Content
  eight_bytes : ℕ → Content
  bytes : List ℕ → Content
  four_bytes : ℕ → Content

pub record Field : Type 0 where
  pub number : ℕ
  pub content : Content

abbrev pub field_with : ℕ → Content → Field
field_with number content = record { number = number; content = content }

-- a value, wherever it is in memory
abbrev pub content_of : FieldValue → Content
content_of (Varint n) = varint n
content_of (EightBytes n) = eight_bytes n
content_of (Bytes b) = bytes b.now
content_of (FourBytes n) = four_bytes n

-- a field, wherever it is in memory
abbrev pub field_of : FieldItem → Field
field_of item = field_with item.number (content_of item.value)

abbrev pub wire_type : Content → ℕ
wire_type (varint n) = 0
wire_type (eight_bytes n) = 1
wire_type (bytes b) = 2
wire_type (four_bytes n) = 5

-- The number of a field and the wire type of its content, as one number.
abbrev pub tag_of : Field → ℕ
tag_of field = field.number * 8 + wire_type field.content

-- These bytes, all of them, spell the content: what stands between the field's tag and the next
-- field.
abbrev pub SpellsContent : List ℕ → Content → Type 0
SpellsContent spelling (varint n) = IsVarint spelling n
SpellsContent spelling (eight_bytes n) = (length spelling ≡ 8) × (n ≡ from_le_bytes w64 spelling)
SpellsContent spelling (bytes b) = StartsWithVarint spelling (length b) b
SpellsContent spelling (four_bytes n) = (length spelling ≡ 4) × (n ≡ from_le_bytes w32 spelling)

-- the bytes are the spelling of a content, and then the rest
pub record StartsWithContent (bytes : List ℕ) (content : Content) (rest : List ℕ) : Type 0 where
  pub spelling : List ℕ
  pub spelled : SpellsContent spelling content
  pub parts : bytes ≡ spelling ++ rest

-- The bytes are the spelling of a field, a tag and its content, and then the rest.
pub record StartsWithField (bytes : List ℕ) (field : Field) (rest : List ℕ) : Type 0 where
  pub numbered : 0 < field.number
  pub small : tag_of field < 2 ^ 32
  pub after_tag : List ℕ
  pub tag : StartsWithVarint bytes (tag_of field) after_tag
  pub content : StartsWithContent after_tag field.content rest

-- a tag of 2 ^ 32 or more, field number 0, and wire types 6 and 7
abbrev pub IsBadTag : ℕ → Type 0
IsBadTag tag = (2 ^ 32 ≤ tag) ⊎ ((tag / 8 ≡ 0) ⊎ ((tag % 8 ≡ 6) ⊎ (tag % 8 ≡ 7)))

-- a tag with a field number and this wire type
pub record IsTag (tag : ℕ) (type : ℕ) : Type 0 where
  pub small : tag < 2 ^ 32
  pub numbered : 0 < tag / 8
  pub typed : tag % 8 ≡ type

-- Why the bytes, of which there are some, do not begin with a field.
pub data FaultAt (input : List ℕ) : WireFault → Type 0 where
  -- no varint stands in the place of the tag
  no_tag : (fault : WireFault) → input ≢ [] → VarintFault input fault → FaultAt input fault
  bad_tag : (tag : ℕ) (rest : List ℕ) → StartsWithVarint input tag rest → IsBadTag tag
      → FaultAt input BadTag
  -- the wire types of the start and the end of a group
  start_group : (tag : ℕ) (rest : List ℕ) → StartsWithVarint input tag rest → IsTag tag 3
      → FaultAt input Group
  end_group : (tag : ℕ) (rest : List ℕ) → StartsWithVarint input tag rest → IsTag tag 4
      → FaultAt input Group
  -- no varint follows the tag
  no_varint : (fault : WireFault) (tag : ℕ) (rest : List ℕ) → StartsWithVarint input tag rest
      → IsTag tag 0 → VarintFault rest fault → FaultAt input fault
  cut_eight_bytes : (tag : ℕ) (rest : List ℕ) → StartsWithVarint input tag rest → IsTag tag 1
      → length rest < 8 → FaultAt input Truncated
  -- no length follows the tag
  no_length : (fault : WireFault) (tag : ℕ) (rest : List ℕ) → StartsWithVarint input tag rest
      → IsTag tag 2 → VarintFault rest fault → FaultAt input fault
  -- fewer bytes follow the length than it says
  cut_bytes : (tag : ℕ) (rest : List ℕ) (len : ℕ) (left : List ℕ) → StartsWithVarint input tag rest
      → IsTag tag 2 → StartsWithVarint rest len left → length left < len → FaultAt input Truncated
  cut_four_bytes : (tag : ℕ) (rest : List ℕ) → StartsWithVarint input tag rest → IsTag tag 5
      → length rest < 4 → FaultAt input Truncated

-- the bytes are the joined spellings of the fields, and then the rest
abbrev pub StartsWithFields : List ℕ → List Field → List ℕ → Type 0
StartsWithFields input [] rest = input ≡ rest
StartsWithFields input (field ∷ fields) rest =
    (more : List ℕ) × StartsWithField input field more × StartsWithFields more fields rest

-- The bytes are the joined spellings of the fields, or after these whole fields stands the fault.
abbrev pub IsReading : List ℕ → List Field → Option WireFault → Type 0
IsReading input fields None = StartsWithFields input fields []
IsReading input fields (Some fault) =
    (rest : List ℕ) × StartsWithFields input fields rest × FaultAt rest fault

-- what a reader answered is this field
abbrev pub IsField : Option (Result FieldItem WireFault) → Field → Type 0
IsField (Some (Ok item)) field = field_of item ≡ field
IsField (Some (Err fault)) field = ⊥
IsField None field = ⊥
