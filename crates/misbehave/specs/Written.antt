-- How frames and fields are written.
use Rattle.std.specs.Prelude.{ℕ, List, [], ◌∷◌, ◌++◌, length}
use Rattle.std.specs.Int.{bytes_high_first}

-- the payload's length in three bytes, type, flags, and the stream in four (RFC 9113, section 4.1)
abbrev pub head_text : ℕ → ℕ → ℕ → ℕ → List ℕ
head_text kind flags stream len = bytes_high_first 3 len ++ kind ∷ flags ∷ bytes_high_first 4 stream

-- a frame (RFC 9113, section 4.1)
abbrev pub frame_text : ℕ → ℕ → ℕ → List ℕ → List ℕ
frame_text kind flags stream content = head_text kind flags stream (length content) ++ content

-- a short text: its length in one byte, which isn't of Huffman's code, and its bytes (RFC 7541,
-- section 5.2)
abbrev pub text_of : List ℕ → List ℕ
text_of bytes = length bytes ∷ bytes

-- a literal field without indexing, with a new name (RFC 7541, section 6.2.2)
abbrev pub field_text : List ℕ → List ℕ → List ℕ
field_text name value = 0 ∷ text_of name ++ text_of value
