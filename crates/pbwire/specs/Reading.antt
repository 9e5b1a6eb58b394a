-- Reading from left to right, as a function: what the private readers answer, and that there is one
-- reading of each list. That it reads by the rules of Varint and Fields, and nothing else, is
-- proved of it.
use Rattle.std.specs.Prelude.{
  ◌≡◌,
  ℕ,
  zero,
  suc,
  ◌/◌,
  ◌%◌,
  ◌^◌,
  List,
  [],
  ◌∷◌,
  length,
  take,
  drop,
  Result,
  Ok,
  Err,
  nat_lt,
  nat_le,
  ◌==◌,
  if◌then◌else◌,
}
use Rattle.std.specs.Int.{w32, w64, from_le_bytes}
use Rattle.pbwire.specs.declared.fault.WireFault.{WireFault}
use Rattle.pbwire.specs.declared.fault.WireFault.TheVariants.{
  Truncated,
  VarintTooLong,
  BadTag,
  Group,
}
use Rattle.pbwire.specs.declared.tag.WireType.{WireType}
use Rattle.pbwire.specs.declared.tag.WireType.TheVariants as type
use Rattle.pbwire.specs.Varint.{sum_of_groups}
use Rattle.pbwire.specs.Fields.{Content, varint, eight_bytes, bytes, four_bytes, Field}

infixl 10 ◌>>=◌
abbrev pub ◌>>=◌ : {A B : Type 0} → Result A WireFault → (A → Result B WireFault)
    → Result B WireFault
(Ok x) >>= f = f x
(Err e) >>= f = Err e

-- What a function returned, seen by view, is what reading gives.
abbrev pub Gives : {X Y : Type 0} → (X → Y) → Result X WireFault → Result Y WireFault → Type 0
Gives view (Ok x) read = read ≡ Ok (view x)
Gives view (Err e) read = read ≡ Err e

-- the bytes of a varint of at most this many bytes, and the rest
abbrev pub varint_bytes : ℕ → List ℕ → Result (List ℕ × List ℕ) WireFault
varint_bytes zero input = Err VarintTooLong
varint_bytes (suc more) [] = Err Truncated
varint_bytes (suc more) (byte ∷ input) =
    if nat_lt byte 128 then Ok (byte ∷ [], input) else varint_bytes more input >>= λ parts.
    Ok (byte ∷ parts.0, parts.1)

-- a number and the bytes after it
unfoldable pub varint_at : List ℕ → Result (ℕ × List ℕ) WireFault
varint_at input = do
  parts ← varint_bytes 10 input
  Ok (sum_of_groups parts.0 % 2 ^ 64, parts.1)

-- the number of a wire type
abbrev pub type_number : WireType → ℕ
type_number type.Varint = 0
type_number type.EightBytes = 1
type_number type.Bytes = 2
type_number type.FourBytes = 5

abbrev pub kind_of : Content → WireType
kind_of (varint n) = type.Varint
kind_of (eight_bytes n) = type.EightBytes
kind_of (bytes b) = type.Bytes
kind_of (four_bytes n) = type.FourBytes

abbrev pub type_at : ℕ → Result WireType WireFault
type_at number =
    if number == 0 then Ok type.Varint
    else (if number == 1 then Ok type.EightBytes
    else (if number == 2 then Ok type.Bytes
    else (if number == 3 then Err Group
    else (if number == 4 then Err Group
    else (if number == 5 then Ok type.FourBytes
    else Err BadTag)))))

-- a field's number and the wire type of its content
unfoldable pub tag_at : ℕ → Result (ℕ × WireType) WireFault
tag_at tag =
    if nat_le (2 ^ 32) tag then Err BadTag
    else (if tag / 8 == 0 then Err BadTag
    else type_at (tag % 8) >>= λ kind. Ok (tag / 8, kind))

unfoldable pub content_at : WireType → List ℕ → Result (Content × List ℕ) WireFault
content_at type.Varint input = do
  n ← varint_at input
  Ok (varint n.0, n.1)
content_at type.EightBytes input =
    if nat_lt (length input) 8 then Err Truncated
    else Ok (eight_bytes (from_le_bytes w64 (take 8 input)), drop 8 input)
content_at type.Bytes input = do
  len ← varint_at input
  if nat_lt (length len.1) len.0 then Err Truncated
      else Ok (bytes (take len.0 len.1), drop len.0 len.1)
content_at type.FourBytes input =
    if nat_lt (length input) 4 then Err Truncated
    else Ok (four_bytes (from_le_bytes w32 (take 4 input)), drop 4 input)

unfoldable pub field_at : List ℕ → Result (Field × List ℕ) WireFault
field_at input = do
  tag ← varint_at input
  head ← tag_at tag.0
  content ← content_at head.1 tag.1
  Ok (record { number = head.0; content = content.0 }, content.1)
