-- The Huffman code of RFC 7541, section 5.2 and appendix B.
use Rattle.std.specs.Prelude.{
  ◌≡◌,
  ℕ,
  zero,
  suc,
  ◌+◌,
  ◌*◌,
  ◌/◌,
  ◌%◌,
  ◌^◌,
  ◌<◌,
  ◌==◌,
  List,
  [],
  ◌∷◌,
  ◌++◌,
  length,
  take,
  count_by,
  slice_index,
  replicate,
}
use Rattle.std.specs.List.{flat_map}

-- How many bits the code of each symbol has: the bytes 0 to 255, and 256, the end of string.
abbrev pub code_lengths : List ℕ
code_lengths =
    13 ∷ 23 ∷ 28 ∷ 28 ∷ 28 ∷ 28 ∷ 28 ∷ 28 ∷ 28 ∷ 24 ∷ 30 ∷ 28 ∷ 28 ∷ 30 ∷ 28 ∷ 28
    ∷ 28 ∷ 28 ∷ 28 ∷ 28 ∷ 28 ∷ 28 ∷ 30 ∷ 28 ∷ 28 ∷ 28 ∷ 28 ∷ 28 ∷ 28 ∷ 28 ∷ 28 ∷ 28
    ∷ 6 ∷ 10 ∷ 10 ∷ 12 ∷ 13 ∷ 6 ∷ 8 ∷ 11 ∷ 10 ∷ 10 ∷ 8 ∷ 11 ∷ 8 ∷ 6 ∷ 6 ∷ 6
    ∷ 5 ∷ 5 ∷ 5 ∷ 6 ∷ 6 ∷ 6 ∷ 6 ∷ 6 ∷ 6 ∷ 6 ∷ 7 ∷ 8 ∷ 15 ∷ 6 ∷ 12 ∷ 10
    ∷ 13 ∷ 6 ∷ 7 ∷ 7 ∷ 7 ∷ 7 ∷ 7 ∷ 7 ∷ 7 ∷ 7 ∷ 7 ∷ 7 ∷ 7 ∷ 7 ∷ 7 ∷ 7
    ∷ 7 ∷ 7 ∷ 7 ∷ 7 ∷ 7 ∷ 7 ∷ 7 ∷ 7 ∷ 8 ∷ 7 ∷ 8 ∷ 13 ∷ 19 ∷ 13 ∷ 14 ∷ 6
    ∷ 15 ∷ 5 ∷ 6 ∷ 5 ∷ 6 ∷ 5 ∷ 6 ∷ 6 ∷ 6 ∷ 5 ∷ 7 ∷ 7 ∷ 6 ∷ 6 ∷ 6 ∷ 5
    ∷ 6 ∷ 7 ∷ 6 ∷ 5 ∷ 5 ∷ 6 ∷ 7 ∷ 7 ∷ 7 ∷ 7 ∷ 7 ∷ 15 ∷ 11 ∷ 14 ∷ 13 ∷ 28
    ∷ 20 ∷ 22 ∷ 20 ∷ 20 ∷ 22 ∷ 22 ∷ 22 ∷ 23 ∷ 22 ∷ 23 ∷ 23 ∷ 23 ∷ 23 ∷ 23 ∷ 24 ∷ 23
    ∷ 24 ∷ 24 ∷ 22 ∷ 23 ∷ 24 ∷ 23 ∷ 23 ∷ 23 ∷ 23 ∷ 21 ∷ 22 ∷ 23 ∷ 22 ∷ 23 ∷ 23 ∷ 24
    ∷ 22 ∷ 21 ∷ 20 ∷ 22 ∷ 22 ∷ 23 ∷ 23 ∷ 21 ∷ 23 ∷ 22 ∷ 22 ∷ 24 ∷ 21 ∷ 22 ∷ 23 ∷ 23
    ∷ 21 ∷ 21 ∷ 22 ∷ 21 ∷ 23 ∷ 22 ∷ 23 ∷ 23 ∷ 20 ∷ 22 ∷ 22 ∷ 22 ∷ 23 ∷ 22 ∷ 22 ∷ 23
    ∷ 26 ∷ 26 ∷ 20 ∷ 19 ∷ 22 ∷ 23 ∷ 22 ∷ 25 ∷ 26 ∷ 26 ∷ 26 ∷ 27 ∷ 27 ∷ 26 ∷ 24 ∷ 25
    ∷ 19 ∷ 21 ∷ 26 ∷ 27 ∷ 27 ∷ 26 ∷ 27 ∷ 24 ∷ 21 ∷ 21 ∷ 26 ∷ 26 ∷ 28 ∷ 27 ∷ 27 ∷ 27
    ∷ 20 ∷ 24 ∷ 20 ∷ 21 ∷ 22 ∷ 21 ∷ 21 ∷ 23 ∷ 22 ∷ 22 ∷ 25 ∷ 25 ∷ 24 ∷ 24 ∷ 26 ∷ 23
    ∷ 26 ∷ 27 ∷ 26 ∷ 26 ∷ 27 ∷ 27 ∷ 27 ∷ 27 ∷ 27 ∷ 28 ∷ 27 ∷ 27 ∷ 27 ∷ 27 ∷ 27 ∷ 26
    ∷ 30 ∷ []

-- how many bits the code of a symbol has
unfoldable pub code_length : ℕ → ℕ
code_length symbol = slice_index code_lengths symbol

-- how many of these lengths are n
unfoldable pub codes_of_length : ℕ → List ℕ → ℕ
codes_of_length n lengths = count_by (λ length. length == n) lengths

-- The canonical rule: the first code of a length follows the codes of the shorter lengths.
unfoldable pub first_code : ℕ → ℕ
first_code zero = 0
first_code (suc n) = 2 * (first_code n + codes_of_length n code_lengths)

-- Codes of one length are consecutive numbers, in the order of their symbols.
unfoldable pub code_number : ℕ → ℕ
code_number symbol =
    first_code (code_length symbol)
    + codes_of_length (code_length symbol) (take symbol code_lengths)

-- the low n bits of a number, the most significant first
unfoldable pub bits : ℕ → ℕ → List ℕ
bits zero number = []
bits (suc n) number = number / 2 ^ n % 2 ∷ bits n number

-- the code of a symbol
unfoldable pub code : ℕ → List ℕ
code symbol = bits (code_length symbol) (code_number symbol)

-- fewer than eight ones
pub record IsPadding (padding : List ℕ) : Type 0 where
  pub short : length padding < 8
  pub ones : padding ≡ replicate (length padding) 1

-- numbers of bytes, and not the end of string
unfoldable pub AreOctets : List ℕ → Type 0
AreOctets [] = Unit {0}
AreOctets (octet ∷ octets) = (octet < 256) × AreOctets octets

-- A text stands for these bytes where its bits are their codes, and then fewer than eight ones.
pub record IsHuffman (text octets : List ℕ) : Type 0 where
  pub padding : List ℕ
  pub spelling : flat_map (bits 8) text ≡ flat_map code octets ++ padding
  pub is_padding : IsPadding padding
  pub are_octets : AreOctets octets
