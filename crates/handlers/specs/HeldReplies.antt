-- How replies are held: each as the varint of a number, one after another.
use Rattle.std.specs.Prelude.{
  ◌≡◌,
  ℕ,
  ◌+◌,
  ◌*◌,
  ◌-◌,
  ◌%◌,
  ◌≤◌,
  List,
  [],
  ◌∷◌,
  length,
  drop,
  map,
  nat_lt,
  if◌then◌else◌,
}
use Rattle.std.specs.List.{flat_map, AllByRecursion}
use Rattle.std.specs.Int.{w32, cast_signed}
use Rattle.pbwire.specs.Spelling.{varint_spelling}
use Rattle.handlers.specs.declared.reply.Reply.{Reply}
use Rattle.handlers.specs.declared.reply.Reply.TheVariants.{Empty, Zeros, Sum}

-- A number below 2 ^ 32 is that many zeros, one from there to below 2 ^ 33 is the 32 bits of a sum,
-- and 2 ^ 33 is the message without a field.
unfoldable pub reply_of : ℕ → Reply
reply_of n =
    if nat_lt n 4294967296 then Zeros n
    else if nat_lt n 8589934592 then Sum (cast_signed w32 (n - 4294967296))
    else Empty

abbrev pub IsNumber : ℕ → Type 0
IsNumber n = n ≤ 8589934592

-- a byte with the top bit is the least group of the number with which the bytes after it begin
unfoldable pub carried : ℕ → List ℕ → List ℕ
carried byte [] = byte ∷ []
carried byte (n ∷ ns) = (byte % 128 + 128 * n) ∷ ns

-- the numbers that varints spell, one after another
unfoldable pub numbers_of : List ℕ → List ℕ
numbers_of [] = []
numbers_of (byte ∷ bytes) =
    if nat_lt byte 128 then byte ∷ numbers_of bytes else carried byte (numbers_of bytes)

abbrev pub held_by : List ℕ → List Reply
held_by bytes = map reply_of (numbers_of bytes)

-- these bytes hold replies: each number is that of a reply, in its shortest spelling
pub record AreHeld (bytes : List ℕ) : Type 0 where
  pub spelled : bytes ≡ flat_map varint_spelling (numbers_of bytes)
  pub fit : AllByRecursion IsNumber (numbers_of bytes)

-- a number is at the front and takes `len` bytes, and replies are held after it
pub record BeginsWith (bytes : List ℕ) (number len : ℕ) : Type 0 where
  pub short : len ≤ length bytes
  pub fits : IsNumber number
  pub numbers : numbers_of bytes ≡ number ∷ numbers_of (drop len bytes)
  pub behind : AreHeld (drop len bytes)
