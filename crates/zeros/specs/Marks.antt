-- Where bytes of a buffer were written.
use Rattle.std.specs.Prelude.{ℕ, ◌≡◌, ◌≤◌, List, ◌∷◌, slice_index}
use Rattle.std.specs.List.{All}
use Rattle.zeros.specs.declared.marks.Span.{Span}
use Rattle.zeros.specs.declared.marks.Marks.{Marks}

-- the spans of the marks, the last one first
abbrev pub spans : Marks → List Span
spans marks = marks.last ∷ marks.earlier.items

-- place i is not in the span
abbrev pub IsOutside : ℕ → Span → Type 0
IsOutside i span = span.from ≤ i → span.to ≤ i

-- the span ends at `end` at most
abbrev pub EndsBy : ℕ → Span → Type 0
EndsBy end span = (span.from ≤ span.to) × (span.to ≤ end)

-- each byte that is in none of the spans is zero
abbrev pub AreZerosOutside : List Span → List ℕ → Type 0
AreZerosOutside marked bytes = (i : ℕ) → All (IsOutside i) marked → slice_index bytes i ≡ 0
