-- String literals (RFC 7541, section 5.2).
use Rattle.std.specs.Prelude.{◌≡◌, ℕ, ◌⊎◌, List, ◌++◌, length}
use Rattle.hpack_codec.specs.Integer.{IsInteger}
use Rattle.hpack_codec.specs.Huffman.{IsHuffman}

-- A length with a flag, and that many bytes: with the flag they are the Huffman text of the octets,
-- without it the octets themselves.
pub record IsString (text octets : List ℕ) : Type 0 where
  pub size : List ℕ
  pub content : List ℕ
  pub spelling : text ≡ size ++ content
  pub meaning : (IsInteger 7 0 size (length content) × (content ≡ octets))
      ⊎ (IsInteger 7 128 size (length content) × IsHuffman content octets)
