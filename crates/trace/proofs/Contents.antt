-- The parts of a payload are its content and what is around it.
use Rattle.std.proofs.Common.{
  ◌≡◌,
  ℕ,
  Bool,
  true,
  false,
  if◌then◌else◌,
  List,
  [],
  ◌∷◌,
  ◌++◌,
  length,
  refl,
  sym,
  ap,
  ◌∙◌,
  arith,
}
use Rattle.h2frame.specs.declared.frame.FrameHead.{FrameHead}
use Rattle.h2frame.specs.Flags.{is_padded, has_priority}
use Rattle.h2frame.specs.Spelling.{SkippedParts}
use Rattle.trace.specs.Contents.{HasPadding, HasPriority, IsContent}

-- the front of a payload, before its content
front : (is_padded_ has : Bool) (payload rest behind : List ℕ) (padding : ℕ)
    → HasPadding is_padded_ payload padding rest → HasPriority has rest behind
    → (priority : List ℕ)
    × (payload ≡ (if is_padded_ then padding ∷ [] else []) ++ (priority ++ behind))
    × (length priority ≡ (if has then 5 else 0)) × (is_padded_ ≡ false → padding ≡ 0)
front true true payload rest behind padding e (priority, f, size) =
    (priority, e ∙ ap (λ (r : List ℕ). padding ∷ r) f, size, λ no. cc)
front true false payload rest behind padding e f =
    ([], e ∙ ap (λ (r : List ℕ). padding ∷ r) f, refl, λ no. cc)
front false true payload rest behind padding (none, e) (priority, f, size) =
    (priority, e ∙ f, size, λ no. none)
front false false payload rest behind padding (none, e) f = ([], e ∙ f, refl, λ no. none)

nothing : (xs : List ℕ) → length xs ≡ 0 → xs ≡ []
nothing [] e = refl
nothing (x ∷ xs) e = absurd (omega (arith, e))

pub is_content : (head : FrameHead) (payload rest behind content last : List ℕ) (padding : ℕ)
    → HasPadding (is_padded head) payload padding rest → HasPriority (has_priority head) rest behind
    → behind ≡ content ++ last → length last ≡ padding
    → IsContent head payload content
is_content head payload rest behind content last padding padded has e size =
    let before =
    front (is_padded head) (has_priority head) payload rest behind padding padded has in
    let skipped : SkippedParts = record { reserved = 0; priority = before.0; padding = last } in
    let whole : payload ≡ (if is_padded head then length last ∷ [] else [])
    ++ (before.0 ++ (content ++ last)) =
    before.1
    ∙ ap (λ (n : ℕ). (if is_padded head then n ∷ [] else []) ++ (before.0 ++ behind)) (sym size)
    ∙ ap (λ (b : List ℕ). (if is_padded head then length last ∷ [] else []) ++ (before.0 ++ b)) e in
    (skipped, whole, before.2, λ no. nothing last (size ∙ before.3 no))
