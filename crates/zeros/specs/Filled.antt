-- What a clause sees of a `ZeroBuffer`.
use Rattle.std.specs.Prelude.{ℕ, List}

-- the bytes of a buffer, and how many more it takes with no memory
pub record FilledBytes : Type 0 where
  pub items : List ℕ
  pub spare : ℕ
