-- Numbers in the bytes of a packet, by where they begin.
use Rattle.std.specs.Prelude.{ℕ, ◌+◌, List, [], ◌∷◌, slice_index}
use Rattle.std.specs.Int.{w16, w32, from_be_bytes, from_le_bytes}

-- of two bytes, the highest first
unfoldable pub be16_at : List ℕ → ℕ → ℕ
be16_at bytes at = from_be_bytes w16 (slice_index bytes at ∷ slice_index bytes (at + 1) ∷ [])

-- of four bytes, the highest first
unfoldable pub be32_at : List ℕ → ℕ → ℕ
be32_at bytes at = from_be_bytes w32
    (slice_index bytes at ∷ slice_index bytes (at + 1) ∷ slice_index bytes (at + 2)
    ∷ slice_index bytes (at + 3) ∷ [])

-- of four bytes, the lowest first
unfoldable pub le32_at : List ℕ → ℕ → ℕ
le32_at bytes at = from_le_bytes w32
    (slice_index bytes at ∷ slice_index bytes (at + 1) ∷ slice_index bytes (at + 2)
    ∷ slice_index bytes (at + 3) ∷ [])
