-- What a worker handed back of what it was handed.
use Rattle.std.specs.Prelude.{◌≡◌, ℕ, List, [], ◌∷◌, map, Option, None, Some}

-- the numbers of the calls that it was handed, in order
abbrev pub asked : {T : Type 0} → (T → ℕ) → List (Option T) → List ℕ
asked number [] = []
asked number (None ∷ tasks) = asked number tasks
asked number (Some job ∷ tasks) = number job ∷ asked number tasks

-- it handed back each call that it took, in order
abbrev pub HasHandedBack : {T F : Type 0} → (T → ℕ) → (F → ℕ) → List (Option T) → List F → Type 0
HasHandedBack of_job of_finished tasks done = map of_finished done ≡ asked of_job tasks

-- nothing was taken, and nothing handed back
abbrev pub IsUnused : {T F : Type 0} → List (Option T) → List F → Type 0
IsUnused tasks done = (tasks ≡ []) × (done ≡ [])
