-- The text of a status in a field: gRPC over HTTP/2, "Percent-Encoded".
use Rattle.std.specs.Prelude.{
  ℕ,
  ◌+◌,
  ◌/◌,
  ◌%◌,
  ◌==◌,
  nat_lt,
  nat_le,
  Bool,
  not,
  ◌&&◌,
  if◌then◌else◌,
  List,
  [],
  ◌∷◌,
}
use Rattle.std.specs.List.{flat_map}
use Rattle.std.specs.Str.Lossy.{utf8_lossy}
use Rattle.percent_encoding.specs.Percent.{percent_decode}

-- 20 to 24 and 26 to 7E, hexadecimal
abbrev pub stands_for_itself : ℕ → Bool
stands_for_itself byte = nat_le 0x20 byte && nat_le byte 0x7E && not (byte == 0x25)

-- the character that writes a hexadecimal digit: 0 to 9, then A to F
abbrev pub upper_case_digit : ℕ → ℕ
upper_case_digit digit = if nat_lt digit 10 then 0x30 + digit else 0x37 + digit

-- one byte of the text
abbrev pub percent_byte : ℕ → List ℕ
percent_byte byte =
    if stands_for_itself byte then byte ∷ []
    else 0x25 ∷ upper_case_digit (byte / 16) ∷ upper_case_digit (byte % 16) ∷ []

-- the value of the field for a text of these bytes
unfoldable pub percent_text : List ℕ → List ℕ
percent_text bytes = flat_map percent_byte bytes

-- The text that a value stands for. `percent_decode` puts its byte in the place of each `%` with
-- two hexadecimal digits of either case, and leaves any other `%` as it is; `utf8_lossy` puts
-- U+FFFD in the place of what isn't UTF-8.
unfoldable pub text_of : List ℕ → List ℕ
text_of value = utf8_lossy (percent_decode value)
