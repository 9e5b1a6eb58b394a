-- The tables (RFC 7541, sections 2.3 and 4).
use Rattle.std.specs.Prelude.{
  ℕ,
  zero,
  suc,
  ◌+◌,
  ◌-◌,
  List,
  [],
  ◌∷◌,
  ◌++◌,
  length,
  Option,
  None,
  slice_get,
  nat_le,
  if◌then◌else◌,
}
use Rattle.lists.specs.declared.field.Field.{Field}
use Rattle.hpack_codec.specs.StaticTable.{static_table}

-- The dynamic table: its entries, newest first, and the size that they may have together.
pub record Table : Type 0 where
  pub entries : List Field
  pub limit : ℕ

-- the size of an entry, or of a field in a list of fields
unfoldable pub size_of : Field → ℕ
size_of field = length field.name + length field.value + 32

unfoldable pub sizes_of : List Field → ℕ
sizes_of [] = 0
sizes_of (field ∷ fields) = size_of field + sizes_of fields

-- the longest front of the entries that has room
unfoldable pub fitting : ℕ → List Field → List Field
fitting room [] = []
fitting room (entry ∷ older) =
    if nat_le (size_of entry) room then entry ∷ fitting (room - size_of entry) older else []

-- A new entry is the first, and the oldest go: all of them, if it is larger than the table.
abbrev pub insert_entry : Table → Field → Table
insert_entry table field =
    record { entries = fitting table.limit (field ∷ table.entries); limit = table.limit }

-- after a change of the limit
abbrev pub resize : Table → ℕ → Table
resize table new_limit = record { entries = fitting new_limit table.entries; limit = new_limit }

-- before the first block
abbrev pub empty_table : Table
empty_table = record { entries = []; limit = 4096 }

-- The entries of both tables by index: from 1 on the static ones, and then the dynamic ones, newest
-- first.
unfoldable pub entry_at : Table → ℕ → Option Field
entry_at table zero = None
entry_at table (suc place) = slice_get (static_table ++ table.entries) place
