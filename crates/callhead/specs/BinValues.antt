-- The value of a binary metadata field, whose name ends in -bin: gRPC over HTTP/2,
-- "Custom-Metadata"; RFC 4648, section 4.
use Rattle.std.specs.Prelude.{
  ◌≡◌,
  ℕ,
  ◌<◌,
  ◌⊎◌,
  List,
  [],
  ◌∷◌,
  ◌++◌,
  length,
  replicate,
  slice_index,
  codes,
}
use Rattle.base64.specs.Rfc4648.{encode_symbols, padding_len}

-- the alphabet of RFC 4648, section 4, in order
abbrev pub alphabet : List ℕ
alphabet = codes "ABCDEFGHIJKLMNOPQRSTUVWXYZabcdefghijklmnopqrstuvwxyz0123456789+/"

-- bytes in base64, without padding
unfoldable pub unpadded : List ℕ → List ℕ
unpadded bytes = encode_symbols alphabet bytes

-- bytes in base64, with all the padding that is due
unfoldable pub padded : List ℕ → List ℕ
padded bytes = unpadded bytes ++ replicate (padding_len (length bytes)) 0x3D

-- the numbers are bytes
abbrev pub AreBytes : List ℕ → Type 0
AreBytes bytes = (i : ℕ) → slice_index bytes i < 256

-- the part of a field that stands for one value
abbrev pub IsPart : List ℕ → List ℕ → Type 0
IsPart part value = AreBytes value × ((part ≡ unpadded value) ⊎ (part ≡ padded value))

-- One field may carry several values: their parts, with a comma between each two.
abbrev pub IsBinValues : List ℕ → List (List ℕ) → Type 0
IsBinValues text [] = ⊥
IsBinValues text (value ∷ []) = IsPart text value
IsBinValues text (value ∷ next ∷ values) =
    (part : List ℕ) × (behind : List ℕ) × (text ≡ part ++ 0x2C ∷ behind) × IsPart part value
    × IsBinValues behind (next ∷ values)
