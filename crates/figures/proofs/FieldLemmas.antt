-- What a search for a byte finds, and what it leaves.
use Rattle.std.proofs.Common.{
  ◌≡◌,
  ℕ,
  Bool,
  true,
  false,
  ◌||◌,
  cond,
  Option,
  Some,
  None,
  List,
  [],
  ◌∷◌,
  refl,
  sym,
  ap,
  ◌∙◌,
  rules,
  true≢false,
  is_some,
}
use Rattle.std.specs.Prelude.{◌==◌}
use Rattle.std.specs.List.{list_any, find}
use Rattle.std.proofs.lemmas.Bool.{or_left, or_right}
use Rattle.figures.specs.FieldRules.{has_byte}

abbrev value_or_0 : Option ℕ → ℕ
value_or_0 None = 0
value_or_0 (Some byte) = byte

-- what is found is there and passes the test, so something passes each test that it passes
pub any_passes : (p q : ℕ → Bool) (byte : ℕ) (bytes : List ℕ) → find p bytes ≡ Some byte
    → q byte ≡ true → list_any q bytes ≡ true
any_passes p q byte [] found passes = absurd (true≢false (ap is_some (sym found)))
any_passes p q byte (first ∷ others) found passes =
    by (p first) found (λ later. any_passes p q byte others later passes)
  where
    by : (b : Bool) → cond b (Some first) (find p others) ≡ Some byte
        → (find p others ≡ Some byte → list_any q others ≡ true)
        → (q first || list_any q others) ≡ true
    by true is later = or_left (q first) (list_any q others) (ap q (ap value_or_0 is) ∙ passes)
    by false is later = or_right (q first) (list_any q others) (later is)

same : (byte : ℕ) → (byte == byte) ≡ true
same byte = search rules

pub has_found : (p : ℕ → Bool) (byte : ℕ) (bytes : List ℕ) → find p bytes ≡ Some byte
    → has_byte byte bytes ≡ true
has_found p byte bytes found = any_passes p (λ other. other == byte) byte bytes found (same byte)

pub found_passes : (p : ℕ → Bool) (byte : ℕ) (bytes : List ℕ)
    → find p bytes ≡ Some byte → p byte ≡ true
found_passes p byte [] found = absurd (true≢false (ap is_some (sym found)))
found_passes p byte (first ∷ others) found = by (p first) refl found (found_passes p byte others)
  where
    by : (b : Bool) → p first ≡ b → cond b (Some first) (find p others) ≡ Some byte
        → (find p others ≡ Some byte → p byte ≡ true) → p byte ≡ true
    by true passes is later = ap p (sym (ap value_or_0 is)) ∙ passes
    by false passes is later = later is

-- where nothing is found, nothing passes
pub none_passes : (p : ℕ → Bool) (bytes : List ℕ) → find p bytes ≡ None → list_any p bytes ≡ false
none_passes p [] none = refl
none_passes p (first ∷ others) none = by (p first) none (none_passes p others)
  where
    by : (b : Bool) → cond b (Some first) (find p others) ≡ None
        → (find p others ≡ None → list_any p others ≡ false) → (b || list_any p others) ≡ false
    by true is later = absurd (true≢false (ap is_some is))
    by false is later = later is

pub last_of_two : (a b : Bool) → a ≡ false → (a || b) ≡ true → b ≡ true
last_of_two a b not_first any = sym (ap (λ x. x || b) not_first) ∙ any

pub last_of_three : (a b c : Bool) → a ≡ false → (a || b || c) ≡ true → (b || c) ≡ true
last_of_three a b c not_first any = sym (ap (λ x. x || b || c) not_first) ∙ any
