-- Octets, wherever they are.
use Rattle.std.specs.Prelude.{ℕ, List}
use Rattle.lists.specs.declared.octets.Holding.{Holding}
use Rattle.lists.specs.declared.octets.Holding.TheVariants.{Own, Shared}

-- the bytes that are held
abbrev pub bytes_of : Holding → List ℕ
bytes_of (Own bytes) = bytes.items
bytes_of (Shared bytes) = bytes
