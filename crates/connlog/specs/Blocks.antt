-- Header blocks that change no table (RFC 7541, sections 5.2, 6.1 and 6.2.2).
use Rattle.std.specs.Prelude.{
  ℕ,
  ◌-◌,
  ◌%◌,
  ◌==◌,
  nat_lt,
  Bool,
  true,
  false,
  ◌&&◌,
  if◌then◌else◌,
  List,
  fold,
}
use Rattle.connlog.specs.declared.tables.ExpectedPart.{ExpectedPart}
use Rattle.connlog.specs.declared.tables.ExpectedPart.TheVariants.{Field, Length, Value, Other}

-- after the first byte of a field: of an indexed one, or of a literal without indexing that has its
-- name by index, where the index isn't spelled in further bytes
abbrev pub behind_first : ℕ → ExpectedPart
behind_first byte = if nat_lt 127 byte && nat_lt byte 255 then Field
    else (if nat_lt 0 byte && nat_lt byte 15 then Length else Other)

-- a value of this many bytes is to come; 127 says that its length is spelled in further bytes
abbrev pub value_of : ℕ → ExpectedPart
value_of length = if length == 0 then Field else (if length == 127 then Other else Value length)

-- the first bit of a length says how the value is spelled
abbrev pub behind : ExpectedPart → ℕ → ExpectedPart
behind Field byte = behind_first byte
behind Length byte = value_of (byte % 128)
behind (Value left) byte = value_of (left - 1)
behind Other byte = Other

abbrev pub is_field : ExpectedPart → Bool
is_field Field = true
is_field Length = false
is_field (Value left) = false
is_field Other = false

-- a block has only such fields
abbrev pub keeps_tables : List ℕ → Bool
keeps_tables block = is_field (fold behind Field block)
