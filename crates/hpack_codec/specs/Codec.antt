-- What a decoder and an encoder keep from block to block.
use Rattle.std.specs.Prelude.{
  ◌≡◌,
  ℕ,
  ◌^◌,
  ◌≤◌,
  ◌⊎◌,
  ◌++◌,
  All,
  codes,
  min,
  List,
  length,
  Option,
  Some,
  None,
}
use Rattle.hpack_codec.specs.declared.fault.HpackFault.{HpackFault}
use Rattle.hpack_codec.specs.declared.fault.HpackFault.TheVariants.{Dead}
use Rattle.lists.specs.declared.field.Field.{Field}
use Rattle.hpack_codec.specs.Table.{Table, empty_table, sizes_of}
use Rattle.hpack_codec.specs.Block.{IsBlock}
use Rattle.hpack_codec.specs.Faults.{Stands}

-- From what it kept a live decoder reads these fields in the block, and keeps the next table.
abbrev pub Reads : Option Table → List ℕ → List Field → Option Table → Type 0
Reads (Some table) block fields (Some next) =
    IsBlock table block fields next × (sizes_of fields ≤ 65536)
Reads (Some table) block fields None = ⊥
Reads None block fields kept = ⊥

-- The fault is the first from the left in the block, over the table that is kept.
abbrev pub IsFirstFault : HpackFault → Option Table → List ℕ → Type 0
IsFirstFault fault (Some table) block = Stands fault table block
IsFirstFault fault None block = fault ≡ Dead

-- What an encoder keeps: the table that its blocks led to, and the least limit set since then, or
-- the table's.
pub record Encoding : Type 0 where
  pub table : Table
  pub least : ℕ

-- before the first block
abbrev pub first_encoding : Encoding
first_encoding = record { table = empty_table; least = 4096 }

-- after a limit is set
abbrev pub limited : Option Encoding → ℕ → Option Encoding
limited (Some encoding) new_limit =
    Some (record { table = encoding.table; least = min encoding.least new_limit })
limited None new_limit = None

-- From what it kept a live encoder writes this block of these fields, and keeps the next table.
-- The limit of that table is the least that was set.
abbrev pub Writes : Option Encoding → List Field → List ℕ → Option Encoding → Type 0
Writes (Some before) fields block (Some after) =
    IsBlock before.table block fields after.table
    × (after.table.limit ≡ before.least) × (after.least ≡ before.least)
Writes (Some before) fields block None = ⊥
Writes None fields block kept = ⊥

-- A name or a value is longer than an integer says.
abbrev pub IsTooLong : Field → Type 0
IsTooLong field = (2 ^ 32 ≤ length field.name) ⊎ (2 ^ 32 ≤ length field.value)

-- what an encoder with this table and least limit keeps, or a dead one
abbrev pub encoding_of : Option Table → ℕ → Option Encoding
encoding_of None least_limit = None
encoding_of (Some table) least_limit = Some (record { table = table; least = least_limit })

-- A field of this name never becomes an entry: its value is a text that a request may have said, or
-- an application's bytes.
abbrev pub IsPrivate : List ℕ → Type 0
IsPrivate name = (name ≡ codes "grpc-message") ⊎ ((front : List ℕ) × (name ≡ front ++ codes "-bin"))

-- no entry is private
abbrev pub NonePrivate : Table → Type 0
NonePrivate table = All (λ field. IsPrivate field.name → ⊥) table.entries

abbrev pub HoldsNoPrivate : Option Encoding → Type 0
HoldsNoPrivate None = Unit {0}
HoldsNoPrivate (Some encoding) = NonePrivate encoding.table
