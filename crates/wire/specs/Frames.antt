-- Frames as they are written, whether lawful or not.
use Rattle.std.specs.Prelude.{ℕ, List, ◌∷◌, ◌++◌, length}
use Rattle.std.specs.Int.{bytes_high_first}

-- the payload's length in three bytes, type, flags, the reserved bit and the stream in four, and
-- the payload (RFC 9113, section 4.1)
abbrev pub frame_text : ℕ → ℕ → ℕ → List ℕ → List ℕ
frame_text kind flags stream payload =
    bytes_high_first 3 (length payload) ++ kind ∷ flags ∷ bytes_high_first 4 stream ++ payload
