-- The timeout of a call: gRPC over HTTP/2, "Timeout", with "TimeoutValue" and "TimeoutUnit".
use Rattle.std.specs.Prelude.{
  ◌≡◌,
  ℕ,
  ◌*◌,
  ◌≤◌,
  ◌==◌,
  if◌then◌else◌,
  List,
  [],
  ◌∷◌,
  ◌++◌,
  length,
  Option,
  Some,
  None,
}
use Rattle.std.specs.Str.Parse.{IsNumeral, digits_value}

-- how many nanoseconds the unit with this letter has: H, M, S, m, u and n
abbrev pub nanoseconds_in : ℕ → Option ℕ
nanoseconds_in letter =
    if letter == 0x48 then Some 3600000000000
    else if letter == 0x4D then Some 60000000000
    else if letter == 0x53 then Some 1000000000
    else if letter == 0x6D then Some 1000000
    else if letter == 0x75 then Some 1000
    else if letter == 0x6E then Some 1
    else None

-- one to eight decimal digits
abbrev pub IsAmount : List ℕ → Type 0
IsAmount digits = IsNumeral 10 digits × (length digits ≤ 8)

-- the text is an amount and the letter of a unit, together this many nanoseconds
pub record IsTimeout (text : List ℕ) (nanoseconds : ℕ) : Type 0 where
  pub digits : List ℕ
  pub letter : ℕ
  pub unit : ℕ
  pub whole : text ≡ digits ++ letter ∷ []
  pub amount : IsAmount digits
  pub named : nanoseconds_in letter ≡ Some unit
  pub product : nanoseconds ≡ digits_value 10 digits * unit
