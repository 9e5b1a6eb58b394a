-- The checksum of IP and TCP (RFC 1071).
use Rattle.std.specs.Prelude.{◌≡◌, ℕ, ◌+◌, ◌*◌, ◌%◌, List, [], ◌∷◌}
use Rattle.capture.specs.declared.packet.Hosts.{Hosts}
use Rattle.capture.specs.declared.packet.Hosts.TheVariants.{V4, V6}

-- the sum of the words of two bytes, the highest first; a zero follows a last byte that is alone
abbrev pub word_sum : List ℕ → ℕ
word_sum [] = 0
word_sum (high ∷ []) = high * 256
word_sum (high ∷ (low ∷ rest)) = high * 256 + low + word_sum rest

-- A sum of words that aren't all zero is all ones in one's complement, where numbers count modulo
-- 65,535.
abbrev pub IsAllOnes : ℕ → Type 0
IsAllOnes sum = sum % 65535 ≡ 0

abbrev pub address_sum : Hosts → ℕ
address_sum (V4 from to) = word_sum from + word_sum to
address_sum (V6 from to) = word_sum from + word_sum to

-- of a pseudo-header: both addresses, the protocol, and how many bytes a segment has (RFC 9293,
-- section 3.1; RFC 8200, section 8.1)
abbrev pub pseudo_sum : Hosts → ℕ → ℕ
pseudo_sum hosts size = address_sum hosts + 6 + size
