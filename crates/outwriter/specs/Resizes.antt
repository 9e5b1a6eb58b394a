-- The initial windows of SETTINGS, as far as they were read.
use Rattle.std.specs.Prelude.{
  ◌≡◌,
  ℕ,
  pos,
  ◌+ℤ◌,
  ◌<◌,
  ◌≤◌,
  List,
  [],
  ◌∷◌,
  ◌++◌,
  All,
  Contains,
  Option,
  Some,
  None,
  IfSome,
}
use Rattle.limits.specs.declared.TheConstants.{MAX_WINDOW}
use Rattle.sendwindows.specs.Windows.{Windows, Fits, balance}

-- the greatest and the last of these sizes
abbrev pub IsSeen : List ℕ → ℕ → Option ℕ → Type 0
IsSeen sizes greatest None = (sizes ≡ []) × (greatest ≡ 0)
IsSeen sizes greatest (Some last) =
    ((before : List ℕ) × (sizes ≡ before ++ last ∷ [])) × All (λ size. size ≤ greatest) sizes
    × Contains sizes greatest

-- with the initial size n no stream's window is larger than 2^31 - 1
abbrev pub FitsOn : Windows → ℕ → Type 0
FitsOn w n = (n ≤ MAX_WINDOW) × ((id : ℕ) → 0 < id → IfSome (balance w id) (λ b. Fits (pos n +ℤ b)))
