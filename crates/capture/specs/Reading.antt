-- What the parts of the reader hand on.
use Rattle.std.specs.Prelude.{◌≡◌, ℕ, ◌+◌, ◌≤◌, List, ◌++◌, length}
use Rattle.capture.specs.declared.packet.Packet.{Packet}
use Rattle.capture.specs.Fields.{le32_at}
use Rattle.capture.specs.Format.{IsRecord}

-- a record of as many bytes as its head says
abbrev pub HasItsSize : List ℕ → Type 0
HasItsSize record_text =
    (16 ≤ length record_text) × (le32_at record_text 8 + 16 ≡ length record_text)

-- The bytes begin with the record of the packet.
abbrev pub StartsWith : List ℕ → Packet → List ℕ → Type 0
StartsWith bytes packet rest = (first : List ℕ) × (bytes ≡ first ++ rest) × IsRecord first packet

-- They begin with no record of a packet.
abbrev pub StartsNone : List ℕ → Type 0
StartsNone bytes = (packet : Packet) (rest : List ℕ) → StartsWith bytes packet rest → ⊥
