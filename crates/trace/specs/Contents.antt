-- What is in a payload (RFC 9113, sections 6.1 and 6.2).
use Rattle.std.specs.Prelude.{◌≡◌, ℕ, Bool, true, false, if◌then◌else◌, List, [], ◌∷◌, ◌++◌, length}
use Rattle.h2frame.specs.declared.frame.FrameHead.{FrameHead}
use Rattle.h2frame.specs.Flags.{is_padded, has_priority}
use Rattle.h2frame.specs.Spelling.{SkippedParts, payload_text}

-- the payload is the content, and around it what the flags say
abbrev pub IsContent : FrameHead → List ℕ → List ℕ → Type 0
IsContent head payload content =
    (skipped : SkippedParts) × (payload ≡ payload_text head skipped content)
    × (length skipped.priority ≡ (if has_priority head then 5 else 0))
    × (is_padded head ≡ false → skipped.padding ≡ [])

-- how many bytes of padding a payload says that it has, if it is padded, and what is after that
abbrev pub HasPadding : Bool → List ℕ → ℕ → List ℕ → Type 0
HasPadding true payload padding rest = payload ≡ padding ∷ rest
HasPadding false payload padding rest = (padding ≡ 0) × (payload ≡ rest)

-- what is after the priority, if there is one
abbrev pub HasPriority : Bool → List ℕ → List ℕ → Type 0
HasPriority true payload rest =
    (priority : List ℕ) × (payload ≡ priority ++ rest) × (length priority ≡ 5)
HasPriority false payload rest = payload ≡ rest
