-- What is left after the last whole message of some bytes. Only the crate's own functions use these
-- words.
use Rattle.std.specs.Prelude.{◌≡◌, ℕ, List, ◌++◌, length, take, All}
use Rattle.lpm.specs.declared.tail.Tail.{Tail}
use Rattle.lpm.specs.declared.fault.LpmFault.{LpmFault}
use Rattle.lpm.specs.Messages.{frames, IsMessage, IsFaultyAfter, Spells}

-- after whole messages there are `len` bytes, of which the first five are known
pub record Leaves (bytes : List ℕ) (tail : Tail) : Type 0 where
  pub messages : List (List ℕ)
  pub rest : List ℕ
  pub whole : bytes ≡ frames messages ++ rest
  pub each : All IsMessage messages
  pub len : length rest ≡ tail.len
  pub known : take 5 rest ≡ take tail.len tail.prefix

abbrev pub IsFaultySomewhere : List ℕ → LpmFault → Type 0
IsFaultySomewhere bytes fault = (messages : List (List ℕ)) × IsFaultyAfter bytes messages fault

abbrev pub SpellsSome : List ℕ → List ℕ → Type 0
SpellsSome bytes rest = (messages : List (List ℕ)) × Spells bytes messages rest
