-- The connection preface of a client (RFC 9113, section 3.4).
use Rattle.std.specs.Prelude.{◌≡◌, ◌⊎◌, ℕ, List, [], ◌∷◌, ◌++◌}

-- `PRI * HTTP/2.0`, an empty line, `SM`, an empty line: the hexadecimal digits of the standard
abbrev pub preface : List ℕ
preface =
    0x50 ∷ 0x52 ∷ 0x49 ∷ 0x20 ∷ 0x2a ∷ 0x20 ∷ 0x48 ∷ 0x54 ∷ 0x54 ∷ 0x50 ∷ 0x2f ∷ 0x32 ∷ 0x2e ∷ 0x30
    ∷ 0x0d ∷ 0x0a ∷ 0x0d ∷ 0x0a ∷ 0x53 ∷ 0x4d ∷ 0x0d ∷ 0x0a ∷ 0x0d ∷ 0x0a ∷ []

-- however the bytes go on, they don't begin with the text
abbrev pub Departs : List ℕ → List ℕ → Type 0
Departs text bytes = (more behind : List ℕ) → bytes ++ more ≡ text ++ behind → ⊥

-- The bytes have the front of a text that is due, and all of it if anything is left of them.
pub record Brings (due bytes still rest : List ℕ) : Type 0 where
  pub came : List ℕ
  pub taken : bytes ≡ came ++ rest
  pub left : due ≡ came ++ still
  pub whole : (still ≡ []) ⊎ (rest ≡ [])
