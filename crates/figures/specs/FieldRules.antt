-- Which rules a field breaks by itself: RFC 9113, sections 8.2.1 and 8.2.2.
use Rattle.std.specs.Prelude.{ℕ, ◌==◌, Bool, false, ◌&&◌, ◌||◌, List, length, drop, slice_get, ◌-◌}
use Rattle.std.specs.List.{list_any}
use Rattle.std.specs.Char.{is_ascii_uppercase}
use Rattle.lists.specs.declared.field.Field.{Field}
use Rattle.callhead.specs.MalformedHeads.{
  is_forbidden_in_names,
  is_forbidden_in_values,
  is_blank,
  is_connection_specific,
}
use Rattle.figures.specs.declared.fields.FieldRule.{FieldRule}
use Rattle.figures.specs.declared.fields.FieldRule.TheVariants.{
  NoName,
  UpperCase,
  NameByte,
  ValueByte,
  ValueBlank,
  OneConnection,
  Late,
  InTrailers,
}

abbrev pub has_byte : ℕ → List ℕ → Bool
has_byte byte bytes = list_any (λ other. other == byte) bytes

-- a colon may be the first byte of a name, and no other
abbrev pub breaks : Field → FieldRule → Bool
breaks field NoName = length field.name == 0
breaks field UpperCase = list_any is_ascii_uppercase field.name
breaks field (NameByte byte) =
    (is_forbidden_in_names byte && has_byte byte field.name)
    || ((byte == 0x3A) && has_byte byte (drop 1 field.name))
breaks field (ValueByte byte) = is_forbidden_in_values byte && has_byte byte field.value
breaks field ValueBlank =
    is_blank (slice_get field.value 0) || is_blank (slice_get field.value (length field.value - 1))
breaks field OneConnection = is_connection_specific field
breaks field Late = false
breaks field InTrailers = false
