-- Header blocks (RFC 7541, sections 3.2 and 6).
use Rattle.std.specs.Prelude.{◌≡◌, ℕ, zero, suc, ◌≤◌, List, [], ◌∷◌, ◌++◌, Some}
use Rattle.lists.specs.declared.field.Field.{Field}
use Rattle.hpack_codec.specs.Integer.{IsInteger}
use Rattle.hpack_codec.specs.StringLiteral.{IsString}
use Rattle.hpack_codec.specs.Table.{Table, entry_at, insert_entry, resize}

-- The name of a literal: at index 0 it is spelled out, at another it is an entry's.
abbrev pub IsName : Table → ℕ → List ℕ → List ℕ → Type 0
IsName table zero text octets = IsString text octets
IsName table (suc place) text octets =
    (text ≡ [])
    × ((entry : Field) × (entry_at table (suc place) ≡ Some entry) × (octets ≡ entry.name))

-- an index with a prefix below flags, a name and a value
pub record IsLiteral (prefix_bits flags : ℕ) (table : Table) (text : List ℕ)
    (field : Field) : Type 0 where
  pub index : ℕ
  pub index_text : List ℕ
  pub name_text : List ℕ
  pub value_text : List ℕ
  pub spelling : text ≡ index_text ++ (name_text ++ value_text)
  pub is_index : IsInteger prefix_bits flags index_text index
  pub is_name : IsName table index name_text field.name
  pub is_value : IsString value_text field.value

-- the forms of a field in a block
pub data Form : Type 0 where
  Indexed : Form
  Incremental : Form
  WithoutIndexing : Form
  NeverIndexed : Form

-- The text spells the field in this form over the table, and leaves the next one.
abbrev pub IsFormOf : Form → Table → List ℕ → Field → Table → Type 0
IsFormOf Indexed table text field next =
    ((index : ℕ) × IsInteger 7 128 text index × (entry_at table index ≡ Some field))
    × (next ≡ table)
IsFormOf Incremental table text field next =
    IsLiteral 6 64 table text field × (next ≡ insert_entry table field)
IsFormOf WithoutIndexing table text field next = IsLiteral 4 0 table text field × (next ≡ table)
IsFormOf NeverIndexed table text field next = IsLiteral 4 16 table text field × (next ≡ table)

abbrev pub Represents : Table → List ℕ → Field → Table → Type 0
Represents table text field next = (form : Form) × IsFormOf form table text field next

-- The text is the joined spellings of the fields, each over the table that those before it left.
unfoldable pub AreFields : Table → List ℕ → List Field → Table → Type 0
AreFields table text [] next = (text ≡ []) × (next ≡ table)
AreFields table text (field ∷ fields) next =
    (first rest : List ℕ) × (mid : Table)
    × (text ≡ first ++ rest) × Represents table first field mid × AreFields mid rest fields next

-- The text is the joined changes of the table's size to these limits.
unfoldable pub AreUpdates : Table → List ℕ → List ℕ → Table → Type 0
AreUpdates table text [] next = (text ≡ []) × (next ≡ table)
AreUpdates table text (new_limit ∷ limits) next =
    (first rest : List ℕ)
    × (text ≡ first ++ rest) × IsInteger 5 32 first new_limit × (new_limit ≤ 4096)
    × AreUpdates (resize table new_limit) rest limits next

-- Over the table the block spells these fields and leaves the next table: changes of size, and then
-- fields.
pub record IsBlock (table : Table) (block : List ℕ) (fields : List Field)
    (next : Table) : Type 0 where
  pub limits : List ℕ
  pub updates : List ℕ
  pub rest : List ℕ
  pub mid : Table
  pub spelling : block ≡ updates ++ rest
  pub are_updates : AreUpdates table updates limits mid
  pub are_fields : AreFields mid rest fields next
