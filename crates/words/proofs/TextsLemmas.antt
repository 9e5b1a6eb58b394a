-- Texts of options that may be given several times.
use Rattle.std.proofs.Common.{
  ◌≡◌,
  subst,
  refl,
  arith,
  List,
  [],
  ◌∷◌,
  length,
  map,
  Bor,
  Option,
  Some,
  None,
}
use Rattle.clap.specs.Walk.{Text}
use Rattle.words.specs.Case.{names_by}
use Rattle.words.specs.Options.{some_texts}

-- what references refer to
abbrev pub nows : List (Bor Text) → List Text
nows texts = map (λ text. text.now) texts

pub some_given : (texts : List (Bor Text)) (all : List Text) → nows texts ≡ all
    → (length texts ≡ 0 → ⊥) → Some (nows texts) ≡ some_texts all
some_given [] all same given = absurd (given refl)
some_given (text ∷ texts) all same given =
    subst (λ (x : List Text).
    ◌≡◌ {A = Option (List Text)} (Some (nows (text ∷ texts))) (some_texts x)) same refl

pub none_given : (texts : List (Bor Text)) (all : List Text) → nows texts ≡ all → length texts ≡ 0
    → None ≡ some_texts all
none_given [] all same none =
    subst (λ (x : List Text). ◌≡◌ {A = Option (List Text)} None (some_texts x)) same refl
none_given (text ∷ texts) all same none = absurd (omega arith)

-- one after its option, and others too
pub lone_name : (name : Text) (texts : List (Bor Text)) (all : List Text) → nows texts ≡ all
    → length texts ≡ 0 → Some (name ∷ []) ≡ names_by (Some name) all
lone_name name [] all same none =
    subst (λ (x : List Text).
    ◌≡◌ {A = Option (List Text)} (Some (name ∷ [])) (names_by (Some name) x)) same refl
lone_name name (text ∷ texts) all same none = absurd (omega arith)

pub too_many_names : (name : Text) (texts : List (Bor Text)) (all : List Text) → nows texts ≡ all
    → (length texts ≡ 0 → ⊥) → None ≡ names_by (Some name) all
too_many_names name [] all same some = absurd (some refl)
too_many_names name (text ∷ texts) all same some =
    subst (λ (x : List Text). ◌≡◌ {A = Option (List Text)} None (names_by (Some name) x)) same refl
