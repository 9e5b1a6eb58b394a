-- A header block that isn't written to its end.
use Rattle.std.specs.Prelude.{ℕ, Bool, List}

-- its stream, whether it ends the stream, whether its HEADERS were written, and the bytes that
-- weren't
pub record Block : Type 0 where
  pub id : ℕ
  pub ends : Bool
  pub begun : Bool
  pub rest : List ℕ
